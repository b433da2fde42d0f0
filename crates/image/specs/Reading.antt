-- What an image is read as, from a list of bytes.
use Rattle.std.specs.Prelude.{◌≡◌, ℕ, ◌<◌, ◌≤◌, Bool, true, cond, not, ◌&&◌, List, length, is_some, Ok, Err, Option, Result, nat_le, nat_lt, codes, map}
use Rattle.std.specs.Result.{result_err, result_unwrap_or}
use Rattle.fields.specs.declared.scanning.EntriesFault.{EntriesFault}
use Rattle.fields.specs.Numbers.{two_at}
use Rattle.fields.specs.Scanning.{first_in, numbered}
use Rattle.fields.specs.Files.{headed, split_of, part_then}
use Rattle.record.specs.Decoding.{record_of, instruction_of}
use Rattle.record.specs.declared.faults.RecordFault.{RecordFault}
use Rattle.instruction.specs.declared.instructions.Instruction.{Instruction}
use Rattle.instruction.specs.declared.instructions.Instruction.TheVariants.{Halt}
use Rattle.image.specs.declared.images.Head.{Head}
use Rattle.image.specs.declared.faults.ImageFault.{ImageFault}
use Rattle.image.specs.declared.faults.ImageFault.TheVariants.{Head as Headed, Count, Handler, Records}

-- why the record that the bytes begin with is no instruction
abbrev pub decoder_fault : List ℕ → Option RecordFault
decoder_fault bytes = result_err (instruction_of (record_of bytes))

-- the first fault of records in a row
abbrev pub fault_in : List (List ℕ) → Option (EntriesFault RecordFault)
fault_in records = first_in (numbered (λ _. decoder_fault)) 0 records

-- is each of the records an instruction
abbrev pub sound : List (List ℕ) → Bool
sound records = not (is_some (fault_in records))

-- the instruction that a record is; in an image each is one
abbrev pub instruction_in : List ℕ → Instruction
instruction_in row = result_unwrap_or (instruction_of (record_of row)) Halt

-- the instructions of records in a row
abbrev pub program_of : List (List ℕ) → List Instruction
program_of records = map instruction_in records

-- the numbers behind the mark CFP and the version, or the first question of them whose answer is no
abbrev pub numbers_behind : List ℕ → Result Head ImageFault
numbers_behind bytes =
    cond (not (nat_lt 0 (two_at bytes 5) && nat_le (two_at bytes 5) 4096)) (Err Count)
    (cond (not (nat_lt (two_at bytes 7) (two_at bytes 5))) (Err Handler)
    (Ok (record { version = 1; count = two_at bytes 5; handler = two_at bytes 7 })))

-- the numbers of the first nine bytes, or the first question of them whose answer is no
abbrev pub head_of : List ℕ → Result Head ImageFault
head_of bytes = part_then (headed (codes "CFP") 4 bytes) Headed (λ _. numbers_behind bytes)

-- what reading an image tells
pub record Contents : Type 0 where
  pub version : ℕ
  pub handler : ℕ
  pub program : List Instruction
  pub rest : List ℕ

abbrev pub contents : Head → List (List ℕ) × List ℕ → Contents
contents head split = record { version = head.version; handler = head.handler; program = program_of split.0; rest = split.1 }

-- the records behind the head, or the first question of them whose answer is no
abbrev pub with_head : List ℕ → Head → Result Contents ImageFault
with_head bytes head = part_then (split_of (λ _. decoder_fault) 8 9 head.count bytes) Records (λ split. Ok (contents head split))

-- the image that the bytes begin with, or the first question whose answer is no
abbrev pub image_of : List ℕ → Result Contents ImageFault
image_of bytes = part_then (head_of bytes) (λ fault. fault) (with_head bytes)

-- the answer to each question that an image is asked was yes: of its handler and its records
abbrev pub WasRead : ℕ → List (List ℕ) → Type 0
WasRead handler records = (length records ≤ 4096) × (handler < length records) × (sound records ≡ true)
