-- No order of moves parts two pipelines of one image.
use Rattle.std.specs.Prelude.{◌≡◌, ℕ, ◌^◌, ◌<◌, ◌≤◌, false, List, length, Ok, Err, Result}
use Rattle.instruction.specs.declared.instructions.Instruction.{Instruction}
use Rattle.effect.specs.declared.actions.Retirement.{Retirement}
use Rattle.effect.specs.Effects.{Table}
use Rattle.moves.specs.declared.kinds.Move.{Move}
use Rattle.stepper.specs.Machine.{World, start, retired, execution, records}
use Rattle.pipes.specs.declared.answers.Drain.{Drain}
use Rattle.pipes.specs.declared.answers.DrainRefusal.{DrainRefusal}
use Rattle.pipes.specs.declared.state.Pipes.{Pipes}
use Rattle.pipes.specs.Draining.{bound, Drained, Drains}
use Rattle.agreement.specs.Layouts.{Laid}
use Rattle.agreement.specs.Successions.{Succession}

-- equal on a unit's operations and on words
abbrev pub Alike : Table → Table → Type 0
Alike table other = (operation a b : ℕ) → operation < 16 → a < 2 ^ 32 → b < 2 ^ 32 → table operation a b ≡ other operation a b

abbrev pub world : Table → List Instruction → ℕ → World
world table program handler = record { table = table; program = program; handler = handler }

-- what pipes, words and records are after as many steps of the sequential machine as there are
-- records
pub record Sequential (W : World) (first : List ℕ) (P : Pipes) (words : List ℕ) (rs : List Retirement) : Type 0 where
  pub registers_are : P.registers ≡ (execution W (length rs) (start first)).registers
  pub words_are : words ≡ (execution W (length rs) (start first)).words
  pub mark_is : P.halted ≡ (execution W (length rs) (start first)).halted
  pub records_are : rs ≡ records W (length rs) (start first)

pub record Equal (P P' : Pipes) (words words' : List ℕ) (rs rs' : List Retirement) : Type 0 where
  pub same_registers : P.registers ≡ P'.registers
  pub same_words : words ≡ words'
  pub same_mark : P.halted ≡ P'.halted
  pub same_records : rs ≡ rs'

-- One image, two tables that are alike, two layouts, the same words at the start: whatever calls
-- were made of the one pipeline and of the other, where they have given equally many records nothing
-- tells them apart.
abbrev pub Agreement : Type 0
Agreement =
    (table other : Table) (program : List Instruction) (handler : ℕ) → Alike table other →
    (sets sets' : List ℕ) → Laid sets → Laid sets' →
    (first : List ℕ) (P P' : Pipes) (words words' : List ℕ) (rs rs' : List Retirement) →
    Succession (world table program handler) sets first P words rs →
    Succession (world other program handler) sets' first P' words' rs' →
    length rs ≡ length rs' →
    Equal P P' words words' rs rs' ×
    Sequential (world table program handler) first P words rs ×
    Sequential (world other program handler) first P' words' rs'

-- a drain with room enough is not refused, and its record is the next of the execution
abbrev pub DrawsNext :
    World → List ℕ → List ℕ → Pipes → List ℕ → List Retirement → List Move → Pipes → List ℕ →
    Result Drain DrainRefusal → Type 0
DrawsNext W sets first P words rs moves P' words' (Ok d) =
    (d.moves ≡ length moves) ×
    Drained W sets P words moves d.retirement P' words' ×
    (d.retirement ≡ retired W (execution W (length rs) (start first)))
DrawsNext W sets first P words rs moves P' words' (Err refusal) = ⊥

abbrev pub DrainsNext : Type 0
DrainsNext =
    (W : World) (sets : List ℕ) → Laid sets →
    (first : List ℕ) (P : Pipes) (words : List ℕ) (rs : List Retirement) → Succession W sets first P words rs →
    P.halted ≡ false → (room : ℕ) → bound (length sets) ≤ room →
    (answer : Result Drain DrainRefusal) (moves : List Move) (P' : Pipes) (words' : List ℕ) →
    Drains W sets P words moves P' words' room answer → DrawsNext W sets first P words rs moves P' words' answer
