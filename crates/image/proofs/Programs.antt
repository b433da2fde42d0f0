-- The instructions of records in a row: how many there are, and which stands at a place.
use Rattle.std.proofs.Common.{◌≡◌, ℕ, ◌<◌, true, List, length, get_or, None}
use Rattle.std.proofs.lemmas.List.{length-map}
use Rattle.std.specs.Result.{result_ok}
use Rattle.std.specs.List.{slice_get}
use Rattle.fields.proofs.Readings.{read_none, read_some}
use Rattle.record.specs.Decoding.{record_of, instruction_of}
use Rattle.instruction.specs.declared.instructions.Instruction.TheVariants.{Halt}
use Rattle.image.specs.Reading.{instruction_in, program_of, sound}

pub length-program : (records : List (List ℕ)) → length (program_of records) ≡ length records
length-program records = length-map records instruction_in

-- by a name without a dash, for functions that name it
pub ruleset program_length = (length-program)

pub program_past : (k : ℕ) (records : List (List ℕ)) → slice_get records k ≡ None → slice_get (program_of records) k ≡ None
program_past = read_none (λ r. instruction_of (record_of r)) Halt

pub program_at : (k : ℕ) (records : List (List ℕ)) (row : List ℕ) → k < length records → row ≡ get_or records k row → sound records ≡ true → slice_get (program_of records) k ≡ result_ok (instruction_of (record_of row))
program_at = read_some (λ r. instruction_of (record_of r)) Halt
