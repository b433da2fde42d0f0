-- Any calls in any order, from a built pipeline on, and the records that they have given.
use Rattle.std.specs.Prelude.{ℕ, List, [], ◌∷◌, ◌++◌, Some, None, Ok, Err, Option, Result}
use Rattle.effect.specs.declared.actions.Retirement.{Retirement}
use Rattle.moves.specs.declared.kinds.Move.{Move}
use Rattle.stepper.specs.Machine.{World}
use Rattle.pipes.specs.declared.answers.Drain.{Drain}
use Rattle.pipes.specs.declared.answers.DrainRefusal.{DrainRefusal}
use Rattle.pipes.specs.declared.answers.MoveRefusal.{MoveRefusal}
use Rattle.pipes.specs.declared.state.Pipes.{Pipes}
use Rattle.pipes.specs.Draining.{Drains}
use Rattle.pipes.specs.Moving.{fresh, moved}
use Rattle.pipes.specs.Running.{run_of}

-- the record that a move gives, and a drain, if any
abbrev pub given : Result (Option Retirement) MoveRefusal → Option Retirement
given (Ok retirement) = retirement
given (Err refusal) = None

abbrev pub drawn : Result Drain DrainRefusal → Option Retirement
drawn (Ok d) = Some d.retirement
drawn (Err refusal) = None

abbrev pub told : Option Retirement → List Retirement
told None = []
told (Some r) = r ∷ []

-- the pipes, the memory's words and the records so far; calls that are refused are among the others
pub data Succession (W : World) (sets : List ℕ) (first : List ℕ) : Pipes → List ℕ → List Retirement → Type 0 where
  built : Succession W sets first fresh first []
  move : {P : Pipes} {words : List ℕ} {rs : List Retirement} → Succession W sets first P words rs → (kind place : ℕ) →
      Succession W sets first (moved W sets P words kind place).pipes (moved W sets P words kind place).words
      (rs ++ told (given (moved W sets P words kind place).answer))
  run : {P : Pipes} {words : List ℕ} {rs : List Retirement} → Succession W sets first P words rs → (moves : List Move) (room : ℕ) →
      Succession W sets first (run_of W sets P words moves room).pipes (run_of W sets P words moves room).words
      (rs ++ (run_of W sets P words moves room).live)
  drain : {P : Pipes} {words : List ℕ} {rs : List Retirement} → Succession W sets first P words rs →
      (room : ℕ) (answer : Result Drain DrainRefusal) (moves : List Move) (P' : Pipes) (words' : List ℕ) →
      Drains W sets P words moves P' words' room answer →
      Succession W sets first P' words' (rs ++ told (drawn answer))
