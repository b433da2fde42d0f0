-- How far the sequential machine goes while the pipes move.
use Rattle.std.specs.Prelude.{◌≡◌, ℕ, false, List, length, Some, None, Option}
use Rattle.effect.specs.declared.actions.Retirement.{Retirement}
use Rattle.stepper.specs.Machine.{World, State, stepped, retired, execution, records}
use Rattle.pipes.specs.declared.state.Pipes.{Pipes}
use Rattle.agreement.specs.Walk.{Agrees}

-- a record is one step
abbrev pub onward : World → Option Retirement → State → State
onward W None S = S
onward W (Some r) S = stepped W S

-- a record is that of the next instruction
abbrev pub Next : World → State → Option Retirement → Type 0
Next W S None = Unit {0}
Next W S (Some r) = (S.halted ≡ false) × (r ≡ retired W S)

-- the records so far are those of as many steps, which lead to what the pipes and words stand for
pub record Follows (W : World) (sets : List ℕ) (S : State) (P : Pipes) (words : List ℕ) (given : List Retirement) : Type 0 where
  pub agrees : Agrees W sets (execution W (length given) S) P words
  pub same_records : given ≡ records W (length given) S
