-- Drains of one pipeline, one after another.
use Rattle.std.specs.Prelude.{◌≡◌, ℕ, ◌≤◌, false, List, [], ◌∷◌, ◌++◌, length, map, max}
use Rattle.bounded_log.specs.declared.places.Log.{Log}
use Rattle.bounded_log.specs.Room.{room, Logs}
use Rattle.effect.specs.declared.actions.Retirement.{Retirement}
use Rattle.moves.specs.declared.kinds.Move.{Move}
use Rattle.stepper.specs.Machine.{World}
use Rattle.pipes.specs.declared.answers.Drain.{Drain}
use Rattle.pipes.specs.declared.state.Pipes.{Pipes}
use Rattle.pipes.specs.Draining.{Drained}

-- the records that drains gave
abbrev pub records_of : List Drain → List Retirement
records_of ds = map (λ (d : Drain). d.retirement) ds

-- the most moves that one of them made
abbrev pub most_of : List Drain → ℕ
most_of [] = 0
most_of (d ∷ ds) = max d.moves (most_of ds)

-- Each drain begins where the one before it ended, not halted, and its moves, as many as it tells,
-- retire just the instruction that it tells.
pub data Sequence (W : World) (sets : List ℕ) (P : Pipes) (words : List ℕ) : List Drain → Pipes → List ℕ → Type 0 where
  none : Sequence W sets P words [] P words
  more : {ds : List Drain} {Q : Pipes} {ws : List ℕ} → Sequence W sets P words ds Q ws → Q.halted ≡ false →
      (d : Drain) (moves : List Move) (Q' : Pipes) (ws' : List ℕ) → d.moves ≡ length moves → Drained W sets Q ws moves d.retirement Q' ws' →
      Sequence W sets P words (ds ++ (d ∷ [])) Q' ws'

-- drains until the pipeline halts or the log is full: they are logged, and the most moves are told
pub record DrainsOn (W : World) (sets : List ℕ) (P : Pipes) (words : List ℕ) (P' : Pipes) (words' : List ℕ)
    (old new : Log Drain) (most : ℕ) : Type 0 where
  pub drains : List Drain
  pub made : Sequence W sets P words drains P' words'
  pub logs : Logs old new drains
  pub most_is : most ≡ most_of drains
  pub within : length drains ≤ room old
  pub until : P'.halted ≡ false → length drains ≡ room old
