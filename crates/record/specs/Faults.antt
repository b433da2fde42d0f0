-- The number of each fault of a record, and where its field begins in the record.
use Rattle.std.specs.Prelude.{ℕ}
use Rattle.record.specs.declared.faults.Field.{Field}
use Rattle.record.specs.declared.faults.Field.TheVariants.{Destination, First, Second, Literal}
use Rattle.record.specs.declared.faults.RecordFault.{RecordFault}
use Rattle.record.specs.declared.faults.RecordFault.TheVariants.{UnknownOperation, OutOfRange, NotZero}

-- where a field begins in its record
abbrev pub field_offset : Field → ℕ
field_offset Destination = 1
field_offset First = 2
field_offset Second = 3
field_offset Literal = 4

abbrev pub record_number : RecordFault → ℕ
record_number UnknownOperation = 7
record_number (OutOfRange field) = 8
record_number (NotZero field) = 9

abbrev pub record_offset : RecordFault → ℕ
record_offset UnknownOperation = 0
record_offset (OutOfRange field) = field_offset field
record_offset (NotZero field) = field_offset field
