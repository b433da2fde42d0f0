-- What is promised of every pipeline that is built: no order of calls parts it from another, and it
-- can always be drained.
use Rattle.std.specs.Prelude.{◌≡◌, ℕ, ◌≤◌, false, List, length, Result}
use Rattle.image.specs.declared.images.Image.{Image}
use Rattle.layout.specs.declared.layouts.Layout.{Layout}
use Rattle.layout.specs.Meaning.{sets_in}
use Rattle.effect.specs.declared.actions.Retirement.{Retirement}
use Rattle.effect.specs.Effects.{Table}
use Rattle.moves.specs.declared.kinds.Move.{Move}
use Rattle.stepper.specs.View.{world_of}
use Rattle.pipes.specs.declared.answers.Drain.{Drain}
use Rattle.pipes.specs.declared.answers.DrainRefusal.{DrainRefusal}
use Rattle.pipes.specs.declared.state.Pipes.{Pipes}
use Rattle.pipes.specs.Draining.{bound, Drains}
use Rattle.draining.specs.Reaching.{Ended}
use Rattle.agreement.specs.Successions.{Succession}
use Rattle.agreement.specs.Statement.{Alike, Equal, Sequential, DrawsNext}

-- Take any other layout that was read, two tables that are alike, and the same words at the start.
-- Whatever calls of move, run and drain were made of this pipeline and of the other one, refused
-- calls among them: where they have given equally many records, registers, words and records are
-- equal, and they are those of the image executed one instruction at a time for as many steps.
abbrev pub NeverParted : Image → Layout → Type 0
NeverParted image layout =
    (other : Layout) (table table' : Table) → Alike table table' →
    (first : List ℕ) (P P' : Pipes) (words words' : List ℕ) (rs rs' : List Retirement) →
    Succession (world_of table image) (sets_in layout) first P words rs →
    Succession (world_of table' image) (sets_in other) first P' words' rs' →
    length rs ≡ length rs' →
    Equal P P' words words' rs rs' × Sequential (world_of table image) first P words rs × Sequential (world_of table' image) first P' words' rs'

-- Wherever such calls leave the pipeline not halted, some moves drain it; and every drain with
-- places enough makes at most the bound's moves, each accepted, and retires just the next
-- instruction of the execution.
abbrev pub AlwaysDrains : Image → Layout → Type 0
AlwaysDrains image layout =
    (table : Table) (first : List ℕ) (P : Pipes) (words : List ℕ) (rs : List Retirement) →
    Succession (world_of table image) (sets_in layout) first P words rs → P.halted ≡ false →
    Ended (world_of table image) (sets_in layout) P words
    × ((room : ℕ) → bound (length (sets_in layout)) ≤ room →
    (answer : Result Drain DrainRefusal) (moves : List Move) (P' : Pipes) (words' : List ℕ) →
    Drains (world_of table image) (sets_in layout) P words moves P' words' room answer →
    DrawsNext (world_of table image) (sets_in layout) first P words rs moves P' words' answer)
