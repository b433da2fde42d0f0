-- The sequential machine: one instruction at a time.
use Rattle.std.specs.Prelude.{ℕ, zero, suc, Bool, true, false, ◌||◌, List, [], ◌∷◌, replicate, Some, None, Ok, Err, Option, Result, slice_index, slice_set, if◌then◌else◌}
use Rattle.std.specs.List.{slice_get}
use Rattle.instruction.specs.declared.instructions.Instruction.{Instruction}
use Rattle.instruction.specs.declared.instructions.Operand.{Operand}
use Rattle.instruction.specs.declared.instructions.Operand.TheVariants.{Register, Literal}
use Rattle.instruction.specs.Named.{register_number}
use Rattle.instruction.specs.Operands.{operands_at}
use Rattle.memory.specs.Words.{written}
use Rattle.effect.specs.declared.actions.Action.{Action}
use Rattle.effect.specs.declared.actions.Action.TheVariants.{Nothing, SetRegister, StoreWord, Trap, Halt}
use Rattle.effect.specs.declared.actions.Effect.{Effect}
use Rattle.effect.specs.declared.actions.Retirement.{Retirement}
use Rattle.effect.specs.declared.actions.Sources.{Sources}
use Rattle.effect.specs.Changes.{halts, registers_after, words_after}
use Rattle.effect.specs.Effects.{Table, effect_of}
use Rattle.stepper.specs.declared.state.StepFault.{StepFault}
use Rattle.stepper.specs.declared.state.StepFault.TheVariants.{Halted}

abbrev pub step_number : StepFault → ℕ
step_number Halted = 30

-- what an execution does not change: the unit's table, and the image
pub record World : Type 0 where
  pub table : Table
  pub program : List Instruction
  pub handler : ℕ

pub record State : Type 0 where
  pub place : ℕ
  pub registers : List ℕ
  pub words : List ℕ
  pub halted : Bool

-- at place 0, every register 0, not halted
abbrev pub start : List ℕ → State
start words = record { place = 0; registers = replicate 16 0; words = words; halted = false }

abbrev pub word_of : List ℕ → Option Operand → ℕ
word_of registers None = 0
word_of registers (Some (Register register)) = slice_index registers (register_number register)
word_of registers (Some (Literal word)) = word

abbrev pub sources_of : List ℕ → Option Instruction → Sources
sources_of registers found = record {
  first = word_of registers (operands_at found).first;
  second = word_of registers (operands_at found).second;
}

-- what is found at the place of a state
abbrev pub found_at : World → State → Option Instruction
found_at W S = slice_get W.program S.place

-- what the next instruction does
abbrev pub effect_at : World → State → Effect
effect_at W S =
    effect_of W.table S.words W.handler (record { place = S.place; instruction = found_at W S })
    (sources_of S.registers (found_at W S))

-- the state after an action and a next place, by the cases of the action
abbrev pub changed : Action → ℕ → State → State
changed Nothing next S = record { place = next; registers = S.registers; words = S.words; halted = S.halted }
changed (SetRegister register word) next S = record {
  place = next;
  registers = slice_set S.registers (register_number register) word;
  words = S.words;
  halted = S.halted;
}
changed (StoreWord address word) next S = record {
  place = next;
  registers = S.registers;
  words = written S.words address word;
  halted = S.halted;
}
changed (Trap word) next S = record { place = next; registers = slice_set S.registers 15 word; words = S.words; halted = S.halted }
changed Halt next S = record { place = next; registers = S.registers; words = S.words; halted = true }

-- the same state after an effect, part by part
abbrev pub applied : Effect → State → State
applied effect S = record {
  place = effect.next;
  registers = registers_after effect.action S.registers;
  words = words_after effect.action S.words;
  halted = halts effect.action || S.halted;
}

-- the state after the next instruction, by the cases of what it does
abbrev pub changed_at : World → State → State
changed_at W S = changed (effect_at W S).action (effect_at W S).next S

-- the state after one more step: as it was, once halted
abbrev pub stepped : World → State → State
stepped W S = if S.halted then S else applied (effect_at W S) S

-- the record of the next instruction
abbrev pub retired : World → State → Retirement
retired W S = record { place = S.place; action = (effect_at W S).action }

-- what a step answers
abbrev pub answer_of : World → State → Result Retirement StepFault
answer_of W S = if S.halted then Err Halted else Ok (retired W S)

-- the state after so many steps
abbrev pub execution : World → ℕ → State → State
execution W zero S = S
execution W (suc n) S = execution W n (stepped W S)

-- the records of at most so many steps
abbrev pub records : World → ℕ → State → List Retirement
records W zero S = []
records W (suc n) S = if S.halted then [] else retired W S ∷ records W n (stepped W S)
