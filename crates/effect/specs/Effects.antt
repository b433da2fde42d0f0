-- What an instruction does, row by row.
use Rattle.std.specs.Prelude.{ℕ, ◌+◌, ◌*◌, ◌%◌, ◌^◌, List, length, Some, None, Ok, Err, Option, Result, ◌==◌, nat_lt, if◌then◌else◌}
use Rattle.memory.specs.declared.access.AccessFault.{AccessFault}
use Rattle.memory.specs.Words.{read_of}
use Rattle.unit.specs.declared.outcome.Fault.{Fault}
use Rattle.instruction.specs.declared.numbers.Register.{Register}
use Rattle.instruction.specs.declared.numbers.UnitOp.{UnitOp}
use Rattle.instruction.specs.declared.instructions.Instruction.{Instruction}
use Rattle.instruction.specs.declared.instructions.Instruction.TheVariants as instruction
use Rattle.instruction.specs.Named.{unit_op_number}
use Rattle.effect.specs.declared.actions.Action.{Action}
use Rattle.effect.specs.declared.actions.Action.TheVariants.{Nothing, SetRegister, StoreWord, Trap, Halt}
use Rattle.effect.specs.declared.actions.Effect.{Effect}
use Rattle.effect.specs.declared.actions.Fetched.{Fetched}
use Rattle.effect.specs.declared.actions.Sources.{Sources}
use Rattle.effect.specs.declared.causes.Cause.{Cause}
use Rattle.effect.specs.declared.causes.Cause.TheVariants.{Outside, PastTheEnd, Unit}

-- a unit's table: an outcome for an operation and two words
abbrev pub Table : Type 0
Table = ℕ → ℕ → ℕ → Result ℕ Fault

-- the place after a place, which no place below the count of an image ever wraps
abbrev pub following : ℕ → ℕ
following place = (place + 1) % 2 ^ 32

abbrev pub address_of : ℕ → ℕ → ℕ
address_of base offset = (base + offset) % 2 ^ 32

abbrev pub does : Action → ℕ → Effect
does action next = record { action = action; next = next }

-- an address outside the memory, a place at or past the count, and a fault of the unit
abbrev pub cause_number : Cause → ℕ
cause_number Outside = 2
cause_number PastTheEnd = 3
cause_number (Unit fault) = 16 + fault.number

-- a trap's word tells its cause and its place
abbrev pub trapped : Cause → ℕ → ℕ → Effect
trapped cause place handler = does (Trap (65536 * cause_number cause + place % 65536)) handler

abbrev loaded_by : Result ℕ AccessFault → ℕ → ℕ → Register → Effect
loaded_by (Ok word) handler place destination = does (SetRegister destination word) (following place)
loaded_by (Err fault) handler place destination = trapped Outside place handler

abbrev pub loaded : List ℕ → ℕ → ℕ → Register → ℕ → Effect
loaded words handler place destination address = loaded_by (read_of words address) handler place destination

abbrev pub stored : List ℕ → ℕ → ℕ → ℕ → ℕ → Effect
stored words handler place address word =
    if nat_lt address (length words) then does (StoreWord address word) (following place) else trapped Outside place handler

abbrev pub computed : ℕ → ℕ → Register → Result ℕ Fault → Effect
computed handler place destination (Ok word) = does (SetRegister destination word) (following place)
computed handler place destination (Err fault) = trapped (Unit fault) place handler

-- The table is asked at words only: an effect means the same for tables that are equal there.
abbrev pub asked : Table → UnitOp → Sources → Result ℕ Fault
asked table operation sources =
    table (unit_op_number operation) (sources.first % 2 ^ 32) (sources.second % 2 ^ 32)

module _ (table : Table) (words : List ℕ) (handler place : ℕ) (sources : Sources) where
  abbrev pub effect_by : Option Instruction → Effect
  effect_by None = trapped PastTheEnd place handler
  effect_by (Some instruction.Halt) = does Halt (following place)
  effect_by (Some (instruction.Jump target)) = does Nothing target
  effect_by (Some (instruction.Set destination word)) = does (SetRegister destination word) (following place)
  effect_by (Some (instruction.BranchZero hint tested target)) = does Nothing (if sources.first == 0 then target else following place)
  effect_by (Some (instruction.JumpRegister target guess)) = does Nothing sources.first
  effect_by (Some (instruction.Load destination base offset)) =
      loaded words handler place destination (address_of sources.first offset)
  effect_by (Some (instruction.Store base source offset)) =
      stored words handler place (address_of sources.first offset) sources.second
  effect_by (Some (instruction.Compute operation destination first second)) =
      computed handler place destination (asked table operation sources)

abbrev pub effect_of : Table → List ℕ → ℕ → Fetched → Sources → Effect
effect_of table words handler fetched sources = effect_by table words handler fetched.place sources fetched.instruction
