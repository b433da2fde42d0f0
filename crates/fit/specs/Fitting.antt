-- Which instructions have a stage, and which operations a unit knows.
use Rattle.std.specs.Prelude.{◌≡◌, ℕ, zero, suc, ◌+◌, ◌*◌, ◌<◌, Bool, true, false, ◌||◌, List, length, nat_lt, slice_index_or}
use Rattle.fields.specs.declared.refusal.Refusal.{Refusal}
use Rattle.fields.specs.Numbers.{holds}
use Rattle.instruction.specs.declared.instructions.Instruction.{Instruction}
use Rattle.instruction.specs.declared.instructions.Instruction.TheVariants.{Halt, Jump, Set, BranchZero, JumpRegister, Load, Store, Compute}
use Rattle.instruction.specs.Named.{unit_op_number}
use Rattle.instruction.specs.Operations.{operation_of}
use Rattle.layout.specs.Able.{able}
use Rattle.fit.specs.declared.faults.FitFault.{FitFault}
use Rattle.fit.specs.declared.faults.FitFault.TheVariants.{NoStage, UnknownOperation}

-- can one of the first stages execute the operation
abbrev pub some_below : ℕ → List ℕ → ℕ → Bool
some_below zero sets operation = false
some_below (suc n) sets operation = able sets n operation || some_below n sets operation

-- the halt and the jump need no stage; every other operation needs one that can execute it
abbrev pub placed : List ℕ → Instruction → Bool
placed sets i = nat_lt (operation_of i) 2 || some_below (length sets) sets (operation_of i)

-- what asks the unit for an operation asks for one of its known set
abbrev pub heard : ℕ → Instruction → Bool
heard known Halt = true
heard known (Jump target) = true
heard known (Set destination word) = true
heard known (BranchZero hint tested target) = true
heard known (JumpRegister target guess) = true
heard known (Load destination base offset) = true
heard known (Store base stored offset) = true
heard known (Compute operation destination first second) = holds known (unit_op_number operation)

-- every instruction passes
abbrev pub All : (Instruction → Bool) → List Instruction → Type 0
All test is = (k : ℕ) → k < length is → test (slice_index_or is k Halt) ≡ true

-- the instruction at a place does not pass
abbrev pub Fails : (Instruction → Bool) → List Instruction → ℕ → Type 0
Fails test is k = (k < length is) × (test (slice_index_or is k Halt) ≡ false)

-- a refusal's record is one for which the answer is no; which one is free
abbrev pub Unfit : List ℕ → ℕ → List Instruction → FitFault → Type 0
Unfit sets known is (NoStage k) = Fails (placed sets) is k
Unfit sets known is (UnknownOperation k) = All (placed sets) is × Fails (heard known) is k

abbrev pub fit_refusal : FitFault → Refusal
fit_refusal (NoStage index) = record { number = 25; place = 9 + 8 * index }
fit_refusal (UnknownOperation index) = record { number = 26; place = 9 + 8 * index }
