-- A list of moves, one after another.
use Rattle.std.specs.Prelude.{◌≡◌, ℕ, ◌+◌, Bool, cond, count_by, List, [], ◌∷◌, ◌++◌, length, Some, None, Ok, Err, Option, Result, ◌==◌, nat_le}
use Rattle.bounded_log.specs.declared.places.Log.{Log}
use Rattle.bounded_log.specs.Room.{Logs}
use Rattle.effect.specs.declared.actions.Retirement.{Retirement}
use Rattle.stepper.specs.Machine.{World}
use Rattle.moves.specs.declared.kinds.Move.{Move}
use Rattle.moves.specs.Decoding.{number_of}
use Rattle.pipes.specs.declared.answers.MoveRefusal.{MoveRefusal}
use Rattle.pipes.specs.declared.answers.RunFigures.{RunFigures}
use Rattle.pipes.specs.declared.answers.RunRefusal.{RunRefusal}
use Rattle.pipes.specs.declared.answers.RunRefusal.TheVariants.{ShortLog}
use Rattle.pipes.specs.declared.state.Pipes.{Pipes}
use Rattle.pipes.specs.Moving.{Moved, moved}

abbrev pub run_number : RunRefusal → ℕ
run_number ShortLog = 27

-- is it a RETIRE, the kind of number 7
abbrev pub is_retire : Move → Bool
is_retire m = number_of m.kind == 7

-- how many moves of a list are retirements
abbrev pub retirements : List Move → ℕ
retirements ms = count_by is_retire ms

-- how far a run has come
pub record Tally : Type 0 where
  pub pipes : Pipes
  pub words : List ℕ
  pub accepted : ℕ
  pub turned_away : ℕ
  pub live : List Retirement

abbrev pub begun : Pipes → List ℕ → Tally
begun P words = record { pipes = P; words = words; accepted = 0; turned_away = 0; live = [] }

abbrev pub counted : Result (Option Retirement) MoveRefusal → Pipes → List ℕ → Tally → Tally
counted (Ok None) P words t = record { pipes = P; words = words; accepted = t.accepted + 1; turned_away = t.turned_away; live = t.live }
counted (Ok (Some r)) P words t = record { pipes = P; words = words; accepted = t.accepted + 1; turned_away = t.turned_away; live = t.live ++ (r ∷ []) }
counted (Err refusal) P words t = record { pipes = P; words = words; accepted = t.accepted; turned_away = t.turned_away + 1; live = t.live }

module _ (W : World) (sets : List ℕ) where
  abbrev pub moved_in : Tally → Move → Moved
  moved_in t m = moved W sets t.pipes t.words (number_of m.kind) m.place

  abbrev pub tallied : Tally → Move → Tally
  tallied t m = counted (moved_in t m).answer (moved_in t m).pipes (moved_in t m).words t

  -- the tally after each move of a list in turn
  abbrev pub ran_from : Tally → List Move → Tally
  ran_from t [] = t
  ran_from t (m ∷ ms) = ran_from (tallied t m) ms

  abbrev pub ran : Pipes → List ℕ → List Move → Tally
  ran P words ms = ran_from (begun P words) ms

-- what a run answers and leaves, and the records that it logs
pub record Run : Type 0 where
  pub answer : Result RunFigures RunRefusal
  pub pipes : Pipes
  pub words : List ℕ
  pub live : List Retirement

abbrev pub figures_of : Tally → RunFigures
figures_of t = record { accepted = t.accepted; turned_away = t.turned_away; live = length t.live }

abbrev pub finished : Tally → Run
finished t = record { answer = Ok (figures_of t); pipes = t.pipes; words = t.words; live = t.live }

abbrev pub not_begun : Pipes → List ℕ → Run
not_begun P words = record { answer = Err ShortLog; pipes = P; words = words; live = [] }

-- A list is run where the log has a free place for each of its retirements; else nothing is done.
abbrev pub run_of : World → List ℕ → Pipes → List ℕ → List Move → ℕ → Run
run_of W sets P words ms room = cond (nat_le (retirements ms) room) (finished (ran W sets P words ms)) (not_begun P words)

-- what a move's answer adds to the figures of a run
abbrev pub figures_after : Result (Option Retirement) MoveRefusal → RunFigures → RunFigures
figures_after (Ok None) f = record { accepted = f.accepted + 1; turned_away = f.turned_away; live = f.live }
figures_after (Ok (Some r)) f = record { accepted = f.accepted + 1; turned_away = f.turned_away; live = f.live + 1 }
figures_after (Err refusal) f = record { accepted = f.accepted; turned_away = f.turned_away + 1; live = f.live }

-- the records that a move's answer gives: one, where a live packet retired
abbrev pub records_of : Result (Option Retirement) MoveRefusal → List Retirement
records_of (Ok None) = []
records_of (Ok (Some r)) = r ∷ []
records_of (Err refusal) = []

-- a run's answer, and the pipes, the words and the log that it leaves
pub record RunsTo (R : Run) (P' : Pipes) (words' : List ℕ) (old new : Log Retirement)
    (answer : Result RunFigures RunRefusal) : Type 0 where
  pub value : answer ≡ R.answer
  pub pipes : P' ≡ R.pipes
  pub words : words' ≡ R.words
  pub logs : Logs old new R.live
