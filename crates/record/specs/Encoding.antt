-- The record of an instruction, and how decoding stands to it.
use Rattle.std.specs.Prelude.{◌≡◌, ℕ, ◌+◌, cond, Some, None, Ok, Option}
use Rattle.instruction.specs.declared.instructions.Instruction.{Instruction}
use Rattle.instruction.specs.declared.instructions.Instruction.TheVariants.{Halt, Jump, Set, BranchZero, JumpRegister, Load, Store, Compute}
use Rattle.instruction.specs.declared.instructions.Operand.TheVariants.{Register, Literal}
use Rattle.instruction.specs.Named.{register_number, unit_op_number}
use Rattle.record.specs.declared.records.Record.{Record}
use Rattle.record.specs.Decoding.{instruction_of}

-- a record of these fields: operation, destination, first, second, literal
abbrev pub fields : ℕ → ℕ → ℕ → ℕ → ℕ → Record
fields operation destination first second literal =
    record { operation = operation; destination = destination; first = first; second = second; literal = literal }

-- the record that is written for an instruction; a literal as first operand cannot be written
abbrev pub encoded : Instruction → Option Record
encoded Halt = Some (fields 0 0 0 0 0)
encoded (Jump target) = Some (fields 1 0 0 0 target)
encoded (Set destination word) = Some (fields 2 (register_number destination) 0 0 word)
encoded (BranchZero hint tested target) = Some (fields 3 (cond hint 1 0) (register_number tested) 0 target)
encoded (JumpRegister target guess) = Some (fields 4 0 (register_number target) 0 guess)
encoded (Load destination base offset) = Some (fields 5 (register_number destination) (register_number base) 0 offset)
encoded (Store base stored offset) = Some (fields 6 0 (register_number base) (register_number stored) offset)
encoded (Compute operation destination (Literal word) second) = None
encoded (Compute operation destination (Register first) (Register second)) =
    Some (fields (16 + unit_op_number operation) (register_number destination) (register_number first) (register_number second) 0)
encoded (Compute operation destination (Register first) (Literal word)) =
    Some (fields (16 + unit_op_number operation) (register_number destination) (register_number first) 16 word)

-- a record decodes to an instruction exactly where it is the record that is written for it
pub record DecodesExactly (r : Record) (i : Instruction) : Type 0 where
  pub written : instruction_of r ≡ Ok i → encoded i ≡ Some r
  pub read : encoded i ≡ Some r → instruction_of r ≡ Ok i
