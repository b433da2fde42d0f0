-- A record of eight bytes, and the instruction that it is.
use Rattle.std.specs.Prelude.{ℕ, Bool, true, cond, not, List, Some, None, Ok, Err, Option, Result, ◌==◌, nat_lt}
use Rattle.fields.specs.Numbers.{byte_at, four_at}
use Rattle.record.specs.declared.faults.Field.TheVariants.{Destination, First, Second, Literal}
use Rattle.record.specs.declared.faults.RecordFault.{RecordFault}
use Rattle.record.specs.declared.faults.RecordFault.TheVariants.{UnknownOperation, OutOfRange, NotZero}
use Rattle.instruction.specs.declared.instructions.Instruction.{Instruction}
use Rattle.instruction.specs.declared.instructions.Instruction.TheVariants.{Halt, Jump, Set, BranchZero, JumpRegister, Load, Store, Compute}
use Rattle.instruction.specs.declared.instructions.Operand.{Operand}
use Rattle.instruction.specs.declared.instructions.Operand.TheVariants as operand
use Rattle.record.specs.declared.records.Record.{Record}
use Rattle.record.specs.declared.shapes.FieldUse.{FieldUse}
use Rattle.record.specs.declared.shapes.FieldUse.TheVariants.{Unused, Word, Hint, RegisterName, RegisterOrLiteral}
use Rattle.record.specs.declared.shapes.Shape.{Shape}
use Rattle.instruction.specs.Named.{register, unit_op}

-- the fields of a record, in the order of their bytes
abbrev pub record_of : List ℕ → Record
record_of bytes =
    record {
      operation = byte_at bytes 0;
      destination = byte_at bytes 1;
      first = byte_at bytes 2;
      second = byte_at bytes 3;
      literal = four_at bytes 4;
    }

-- how the four fields are used, in their order
abbrev pub uses : FieldUse → FieldUse → FieldUse → FieldUse → Shape
uses destination first second literal = record { destination = destination; first = first; second = second; literal = literal }

abbrev shape : FieldUse → FieldUse → FieldUse → FieldUse → Option Shape
shape destination first second literal = Some (uses destination first second literal)

-- how operations 16 to 31 use their fields: the literal is used where second is 16
abbrev computing : ℕ → Option Shape
computing second = shape RegisterName RegisterName RegisterOrLiteral (cond (second == 16) Word Unused)

-- how an operation uses the fields: destination, first, second, literal
abbrev pub shape_of : ℕ → ℕ → Option Shape
shape_of operation second =
    cond (operation == 0) (shape Unused Unused Unused Unused)
    (cond (operation == 1) (shape Unused Unused Unused Word)
    (cond (operation == 2) (shape RegisterName Unused Unused Word)
    (cond (operation == 3) (shape Hint RegisterName Unused Word)
    (cond (operation == 4) (shape Unused RegisterName Unused Word)
    (cond (operation == 5) (shape RegisterName RegisterName Unused Word)
    (cond (operation == 6) (shape Unused RegisterName RegisterName Word)
    (cond (nat_lt operation 16) None
    (cond (nat_lt operation 32) (computing second) None))))))))

-- the literal is used where the second operand is one
abbrev pub literal_use : Operand → FieldUse
literal_use (operand.Literal word) = Word
literal_use (operand.Register register) = Unused

-- how an instruction uses the fields of its record
abbrev pub shape_for : Instruction → Shape
shape_for Halt = uses Unused Unused Unused Unused
shape_for (Jump target) = uses Unused Unused Unused Word
shape_for (Set destination word) = uses RegisterName Unused Unused Word
shape_for (BranchZero hint tested target) = uses Hint RegisterName Unused Word
shape_for (JumpRegister target guess) = uses Unused RegisterName Unused Word
shape_for (Load destination base offset) = uses RegisterName RegisterName Unused Word
shape_for (Store base stored offset) = uses Unused RegisterName RegisterName Word
shape_for (Compute operation destination first second) = uses RegisterName RegisterName RegisterOrLiteral (literal_use second)

-- is the value in the range of a field that is used so
abbrev pub admits : FieldUse → ℕ → Bool
admits Unused value = true
admits Word value = true
admits Hint value = nat_lt value 2
admits RegisterName value = nat_lt value 16
admits RegisterOrLiteral value = nat_lt value 17

-- is the value 0 where the field is unused
abbrev pub spared : FieldUse → ℕ → Bool
spared Unused value = value == 0
spared Word value = true
spared Hint value = true
spared RegisterName value = true
spared RegisterOrLiteral value = true

-- the first question of a record whose answer is no
abbrev pub fault_of : Shape → Record → Option RecordFault
fault_of s r =
    cond (not (admits s.destination r.destination)) (Some (OutOfRange Destination))
    (cond (not (admits s.first r.first)) (Some (OutOfRange First))
    (cond (not (admits s.second r.second)) (Some (OutOfRange Second))
    (cond (not (spared s.destination r.destination)) (Some (NotZero Destination))
    (cond (not (spared s.first r.first)) (Some (NotZero First))
    (cond (not (spared s.second r.second)) (Some (NotZero Second))
    (cond (not (spared s.literal r.literal)) (Some (NotZero Literal))
    None))))))

-- a second of 16 means the literal
abbrev second_of : Record → Operand
second_of r = cond (r.second == 16) (operand.Literal r.literal) (operand.Register (register r.second))

abbrev pub computing_of : Record → Instruction
computing_of r = Compute (unit_op r.operation) (register r.destination) (operand.Register (register r.first)) (second_of r)

-- the instruction of a record without fault
abbrev pub built_of : Record → Instruction
built_of r =
    cond (r.operation == 0) Halt
    (cond (r.operation == 1) (Jump r.literal)
    (cond (r.operation == 2) (Set (register r.destination) r.literal)
    (cond (r.operation == 3) (BranchZero (r.destination == 1) (register r.first) r.literal)
    (cond (r.operation == 4) (JumpRegister (register r.first) r.literal)
    (cond (r.operation == 5) (Load (register r.destination) (register r.first) r.literal)
    (cond (r.operation == 6) (Store (register r.first) (register r.second) r.literal)
    (computing_of r)))))))

abbrev pub judged : Option RecordFault → Instruction → Result Instruction RecordFault
judged None i = Ok i
judged (Some fault) i = Err fault

abbrev pub shaped : Option Shape → Record → Result Instruction RecordFault
shaped None r = Err UnknownOperation
shaped (Some s) r = judged (fault_of s r) (built_of r)

-- the instruction that a record is, or its first fault
abbrev pub instruction_of : Record → Result Instruction RecordFault
instruction_of r = shaped (shape_of r.operation r.second) r
