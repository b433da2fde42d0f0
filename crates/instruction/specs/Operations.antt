-- The number of an instruction's operation, and whether it needs a stage.
use Rattle.std.specs.Prelude.{ℕ, ◌+◌, Bool, not, nat_lt}
use Rattle.instruction.specs.declared.instructions.Instruction.{Instruction}
use Rattle.instruction.specs.declared.instructions.Instruction.TheVariants.{Halt, Jump, Set, BranchZero, JumpRegister, Load, Store, Compute}
use Rattle.instruction.specs.Named.{unit_op_number}

abbrev pub operation_of : Instruction → ℕ
operation_of Halt = 0
operation_of (Jump target) = 1
operation_of (Set destination word) = 2
operation_of (BranchZero hint tested target) = 3
operation_of (JumpRegister target guess) = 4
operation_of (Load destination base offset) = 5
operation_of (Store base stored offset) = 6
operation_of (Compute operation destination first second) = 16 + unit_op_number operation

-- the halt and the jump need no stage
abbrev pub needs_stage : Instruction → Bool
needs_stage i = not (nat_lt (operation_of i) 2)
