-- What an action changes: a register, a word of memory, or the halted mark.
use Rattle.std.specs.Prelude.{ℕ, Bool, true, false, List, slice_set}
use Rattle.instruction.specs.Named.{register_number}
use Rattle.memory.specs.Words.{written}
use Rattle.effect.specs.declared.actions.Action.{Action}
use Rattle.effect.specs.declared.actions.Action.TheVariants.{Nothing, SetRegister, StoreWord, Trap, Halt}

abbrev pub halts : Action → Bool
halts Nothing = false
halts (SetRegister register word) = false
halts (StoreWord address word) = false
halts (Trap word) = false
halts Halt = true

abbrev pub registers_after : Action → List ℕ → List ℕ
registers_after Nothing registers = registers
registers_after (SetRegister register word) registers = slice_set registers (register_number register) word
registers_after (StoreWord address word) registers = registers
registers_after (Trap word) registers = slice_set registers 15 word
registers_after Halt registers = registers

abbrev pub words_after : Action → List ℕ → List ℕ
words_after Nothing words = words
words_after (SetRegister register word) words = words
words_after (StoreWord address word) words = written words address word
words_after (Trap word) words = words
words_after Halt words = words
