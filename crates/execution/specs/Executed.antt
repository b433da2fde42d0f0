-- What executing the bytes of an image answers and leaves.
use Rattle.std.specs.Prelude.{◌≡◌, ℕ, List, [], ◌++◌, length, take, drop, Ok, Err, Result}
use Rattle.image.specs.declared.faults.ImageFault.{ImageFault}
use Rattle.image.specs.Reading.{Contents, image_of}
use Rattle.bounded_log.specs.declared.places.Log.{Log}
use Rattle.bounded_log.specs.Room.{Logs}
use Rattle.effect.specs.declared.actions.Retirement.{Retirement}
use Rattle.effect.specs.Effects.{Table}
use Rattle.stepper.specs.Machine.{World, State, start, execution, records}
use Rattle.execution.specs.declared.answers.Execution.{Execution}

-- the answer, the words that were lent, and the records that the log has more
pub record Executed : Type 0 where
  pub answer : Result Execution ImageFault
  pub words : List ℕ
  pub records : List Retirement

abbrev pub world_from : Table → Contents → World
world_from table told = record { table = table; program = told.program; handler = told.handler }

-- an execution of at most so many steps
module _ (W : World) (n : ℕ) (words : List ℕ) where
  abbrev pub first : State
  first = start (take 65536 words)

  abbrev pub last : State
  last = execution W n first

  abbrev pub told : List Retirement
  told = records W n first

-- from zero registers and the first 65,536 of the words, at most so many steps
module _ (table : Table) (words : List ℕ) (n : ℕ) where
  abbrev pub executed_at : Contents → World → Executed
  executed_at read W = record {
    answer = Ok (record { records = length read.program; steps = length (told W n words); halted = (last W n words).halted });
    words = (last W n words).words ++ drop 65536 words;
    records = told W n words;
  }

  abbrev pub executed_from : Result Contents ImageFault → Executed
  executed_from (Err fault) = record { answer = Err fault; words = words; records = [] }
  executed_from (Ok read) = executed_at read (world_from table read)

abbrev pub executed : Table → List ℕ → List ℕ → ℕ → Executed
executed table bytes words n = executed_from table words n (image_of bytes)

-- this answer, these words and this log are what the execution leaves
pub record ExecutesTo (e : Executed) (words : List ℕ) (log log' : Log Retirement) (answer : Result Execution ImageFault) : Type 0 where
  pub value : answer ≡ e.answer
  pub leaves : words ≡ e.words
  pub logs : Logs log log' e.records
