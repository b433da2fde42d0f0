-- A stepper and the words of its memory, as a state of the sequential machine.
use Rattle.std.specs.Prelude.{◌≡◌, ℕ, Bool, List, length}
use Rattle.bounded_log.specs.declared.places.Log.{Log}
use Rattle.bounded_log.specs.Room.{room, Logs}
use Rattle.effect.specs.declared.actions.Retirement.{Retirement}
use Rattle.image.specs.declared.images.Image.{Image}
use Rattle.image.specs.Meaning.{program, handler_in}
use Rattle.effect.specs.Effects.{Table}
use Rattle.stepper.specs.declared.state.Stepper.{Stepper}
use Rattle.stepper.specs.Machine.{World, State, execution, records}

abbrev pub world_of : Table → Image → World
world_of table image = record { table = table; program = program image; handler = handler_in image }

module _ (stepper : Stepper) where
  abbrev pub image_in : Image
  image_in = stepper.image

  abbrev pub place_in : ℕ
  place_in = stepper.place

  abbrev pub registers_in : List ℕ
  registers_in = stepper.registers

  abbrev pub halted_in : Bool
  halted_in = stepper.halted

abbrev pub view : Stepper → List ℕ → State
view stepper words = record {
  place = place_in stepper;
  registers = registers_in stepper;
  words = words;
  halted = halted_in stepper;
}

-- What a run does: as many steps as the log has free places, or those up to the halt. Their records
-- are logged, and the stepper and the words are those of the execution after these steps.
module _ (table : Table) (before : Stepper) (words : List ℕ) (log : Log Retirement) where
  abbrev pub run_state : State
  run_state = execution (world_of table (image_in before)) (room log) (view before words)

  abbrev pub run_records : List Retirement
  run_records = records (world_of table (image_in before)) (room log) (view before words)

-- this many steps, this log, this stepper and these words are what the run leaves
pub record Ran (table : Table) (before after : Stepper) (words words' : List ℕ) (log log' : Log Retirement) (steps : ℕ) : Type 0 where
  pub made : steps ≡ length (run_records table before words log)
  pub logs : Logs log log' (run_records table before words log)
  pub state : view after words' ≡ run_state table before words log
  pub image : image_in after ≡ image_in before
