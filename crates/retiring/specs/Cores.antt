-- What draining the bytes of a core answers and leaves.
use Rattle.std.specs.Prelude.{◌≡◌, ℕ, ◌≤◌, List, ◌++◌, length, take, drop, Ok, Err, Result}
use Rattle.bounded_log.specs.declared.places.Log.{Log}
use Rattle.bounded_log.specs.Room.{room, Logs}
use Rattle.effect.specs.Effects.{Table}
use Rattle.job.specs.declared.faults.JobFault.{JobFault}
use Rattle.job.specs.Reading.{Core}
use Rattle.checking.specs.declared.answers.CheckFault.{CheckFault}
use Rattle.checking.specs.declared.answers.CheckFault.TheVariants.{Job}
use Rattle.checking.specs.Checked.{Fits, Misfits}
use Rattle.stepper.specs.Machine.{World, State, start, execution, records}
use Rattle.pipes.specs.declared.answers.Drain.{Drain}
use Rattle.pipes.specs.declared.state.Pipes.{Pipes}
use Rattle.pipes.specs.Draining.{bound}
use Rattle.pipes.specs.Moving.{fresh}
use Rattle.retiring.specs.declared.answers.CoreDrained.{CoreDrained}
use Rattle.retiring.specs.Drains.{records_of, most_of, Sequence}

abbrev pub world_in : Table → Core → World
world_in table core = record { table = table; program = core.program; handler = core.handler }

-- from zero registers and the first 65,536 of the words, as many steps as the log has free places
abbrev pub last : Table → Core → List ℕ → ℕ → State
last table core words n = execution (world_in table core) n (start (take 65536 words))

-- The drains that are logged, from the fresh pipeline on: their records are those of the image executed
-- one instruction at a time, until it halts or the log is full, and none makes more moves than the bound.
pub record CoreDrainsOn (table : Table) (core : Core) (words words' : List ℕ) (old new : Log Drain) (answer : CoreDrained) : Type 0 where
  pub drains : List Drain
  pub logs : Logs old new drains
  pub executes : records_of drains ≡ records (world_in table core) (room old) (start (take 65536 words))
  pub end : Pipes
  pub made : Sequence (world_in table core) core.sets fresh (take 65536 words) drains end (take 65536 words')
  pub leaves : words' ≡ (last table core words (room old)).words ++ drop 65536 words
  pub answer_is : answer ≡ record {
    records = length core.program;
    stages = length core.sets;
    drained = length drains;
    halted = (last table core words (room old)).halted;
    most = most_of drains;
    bound = bound (length core.sets);
  }
  pub few : most_of drains ≤ bound (length core.sets)

-- the questions of a core first, then those of fit; a refused core leaves words and log as they were
abbrev pub CoreDrains : Table → ℕ → Result Core JobFault → List ℕ → List ℕ → Log Drain → Log Drain → Result CoreDrained CheckFault → Type 0
CoreDrains table known (Ok core) words words' old new (Ok answer) = CoreDrainsOn table core words words' old new answer × Fits known core.sets core.program
CoreDrains table known (Ok core) words words' old new (Err refused) = Misfits known core.sets core.program refused × (words' ≡ words) × (new ≡ old)
CoreDrains table known (Err fault) words words' old new (Ok answer) = ⊥
CoreDrains table known (Err fault) words words' old new (Err refused) = (refused ≡ Job fault) × (words' ≡ words) × (new ≡ old)
