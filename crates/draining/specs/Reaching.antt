-- How far a drain has come.
use Rattle.std.specs.Prelude.{◌≡◌, ℕ, ◌+◌, ◌≤◌, false, List, [], length}
use Rattle.effect.specs.declared.actions.Retirement.{Retirement}
use Rattle.moves.specs.declared.kinds.Move.{Move}
use Rattle.stepper.specs.Machine.{World}
use Rattle.pipes.specs.declared.state.Pipes.{Pipes}
use Rattle.pipes.specs.Running.{ran}
use Rattle.pipes.specs.Draining.{bound, Drained}
use Rattle.draining.specs.Sound.{Sound}
use Rattle.draining.specs.Measure.{μ}

-- the moves so far, each accepted, lead here without a record, and there is time for those to come
pub record Reached (W : World) (sets : List ℕ) (P : Pipes) (words : List ℕ) (moves : List Move) (P' : Pipes) (words' : List ℕ) : Type 0 where
  pub none_turned_away : (ran W sets P words moves).turned_away ≡ 0
  pub leads : (ran W sets P words moves).pipes ≡ P'
  pub leaves : (ran W sets P words moves).words ≡ words'
  pub none_live : (ran W sets P words moves).live ≡ []
  pub sound : Sound sets P'
  pub runs_on : P'.halted ≡ false
  pub few : length moves + μ sets P' ≤ bound (length sets)

-- a drain that ends
pub record Ended (W : World) (sets : List ℕ) (P : Pipes) (words : List ℕ) : Type 0 where
  pub moves : List Move
  pub retirement : Retirement
  pub pipes_at_end : Pipes
  pub words_at_end : List ℕ
  pub drained : Drained W sets P words moves retirement pipes_at_end words_at_end
  pub sound : Sound sets pipes_at_end
