-- What a drain does: a run of accepted moves, few enough, in which just one instruction retires.
use Rattle.std.specs.Prelude.{◌≡◌, ℕ, ◌+◌, ◌*◌, ◌≤◌, cond, List, [], ◌∷◌, length, Some, None, Ok, Err, Option, Result, nat_le}
use Rattle.bounded_log.specs.declared.places.Log.{Log}
use Rattle.bounded_log.specs.Entries.{since}
use Rattle.bounded_log.specs.Room.{places_in, count_in, room, Logs}
use Rattle.effect.specs.declared.actions.Retirement.{Retirement}
use Rattle.moves.specs.declared.kinds.Move.{Move}
use Rattle.stepper.specs.Machine.{World}
use Rattle.pipes.specs.declared.answers.Drain.{Drain}
use Rattle.pipes.specs.declared.answers.DrainRefusal.{DrainRefusal}
use Rattle.pipes.specs.declared.answers.DrainRefusal.TheVariants.{Halted, ShortLog}
use Rattle.pipes.specs.declared.state.Pipes.{Pipes}
use Rattle.pipes.specs.Running.{ran}

abbrev pub drain_number : DrainRefusal → ℕ
drain_number Halted = 30
drain_number ShortLog = 39

-- the most moves that a drain of n stages makes
abbrev pub bound : ℕ → ℕ
bound n = 2 * (n * n) + 4 * n + 8

-- the first question of a drain whose answer is no: not halted, and room in the log for every move
abbrev pub drain_refusal : List ℕ → Pipes → ℕ → Option DrainRefusal
drain_refusal sets P room = cond P.halted (Some Halted) (cond (nat_le (bound (length sets)) room) None (Some ShortLog))

-- The moves, made one by one, are each accepted; they lead from one state to the other, and give
-- just one record.
pub record Drained (W : World) (sets : List ℕ) (P : Pipes) (words : List ℕ) (moves : List Move) (retirement : Retirement) (P' : Pipes) (words' : List ℕ) : Type 0 where
  pub none_turned_away : (ran W sets P words moves).turned_away ≡ 0
  pub leads : (ran W sets P words moves).pipes ≡ P'
  pub leaves : (ran W sets P words moves).words ≡ words'
  pub one : (ran W sets P words moves).live ≡ retirement ∷ []
  pub few : length moves ≤ bound (length sets)

-- a drain's answer, the moves that it logs, and what it leaves; refused, it logs none and changes
-- nothing
module _ (W : World) (sets : List ℕ) (P : Pipes) (words : List ℕ) (moves : List Move) (P' : Pipes) (words' : List ℕ) where
  abbrev pub DrainsIf : Option DrainRefusal → Result Drain DrainRefusal → Type 0
  DrainsIf (Some f) (Ok d) = ⊥
  DrainsIf (Some f) (Err e) = (e ≡ f) × (moves ≡ []) × (P' ≡ P) × (words' ≡ words)
  DrainsIf None (Ok d) = (d.moves ≡ length moves) × Drained W sets P words moves d.retirement P' words'
  DrainsIf None (Err e) = ⊥

  abbrev pub Drains : ℕ → Result Drain DrainRefusal → Type 0
  Drains room answer = DrainsIf (drain_refusal sets P room) answer

-- the moves that were logged from one log to the other
abbrev pub moves_between : Log Move → Log Move → List Move
moves_between old new = since (count_in old) (count_in new) (places_in new)

-- a drain's answer, and the pipes, the words and the log that it leaves
pub record DrainsTo (W : World) (sets : List ℕ) (P : Pipes) (words : List ℕ) (P' : Pipes)
    (words' : List ℕ) (old new : Log Move) (answer : Result Drain DrainRefusal) : Type 0 where
  pub drained : Drains W sets P words (moves_between old new) P' words' (room old) answer
  pub logs : Logs old new (moves_between old new)
