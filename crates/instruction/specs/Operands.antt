-- Where an instruction takes its words from.
use Rattle.std.specs.Prelude.{Some, None, Option}
use Rattle.instruction.specs.declared.instructions.Instruction.{Instruction}
use Rattle.instruction.specs.declared.instructions.Instruction.TheVariants.{Halt, Jump, Set, BranchZero, JumpRegister, Load, Store, Compute}
use Rattle.instruction.specs.declared.instructions.Operand.{Operand}
use Rattle.instruction.specs.declared.instructions.Operand.TheVariants.{Register}
use Rattle.instruction.specs.declared.instructions.Operands.{Operands}

abbrev takes : Option Operand → Option Operand → Operands
takes first second = record { first = first; second = second }

abbrev pub operands_of : Instruction → Operands
operands_of Halt = takes None None
operands_of (Jump target) = takes None None
operands_of (Set destination word) = takes None None
operands_of (BranchZero hint tested target) = takes (Some (Register tested)) None
operands_of (JumpRegister target guess) = takes (Some (Register target)) None
operands_of (Load destination base offset) = takes (Some (Register base)) None
operands_of (Store base stored offset) = takes (Some (Register base)) (Some (Register stored))
operands_of (Compute operation destination first second) = takes (Some first) (Some second)

-- the operands of what stands at a place: none where nothing stands there
abbrev pub operands_at : Option Instruction → Operands
operands_at None = takes None None
operands_at (Some instruction) = operands_of instruction
