-- The packet that enters for what was fetched.
use Rattle.std.specs.Prelude.{ℕ, Bool, true, false, if◌then◌else◌, List, Some, None, Option}
use Rattle.instruction.specs.declared.instructions.Instruction.{Instruction}
use Rattle.instruction.specs.declared.instructions.Instruction.TheVariants.{Halt, Jump, Set, BranchZero, JumpRegister, Load, Store, Compute}
use Rattle.instruction.specs.declared.instructions.Operand.{Operand}
use Rattle.instruction.specs.declared.instructions.Operand.TheVariants as operand
use Rattle.instruction.specs.Operands.{operands_at}
use Rattle.effect.specs.declared.actions.Fetched.{Fetched}
use Rattle.effect.specs.declared.actions.Sources.{Sources}
use Rattle.effect.specs.Effects.{Table, following, effect_of}
use Rattle.packets.specs.declared.bindings.Source.{Source}
use Rattle.packets.specs.declared.bindings.Source.TheVariants.{Absent, Literal, Bound}
use Rattle.packets.specs.declared.packets.Packet.{Packet}
use Rattle.packets.specs.declared.packets.PacketState.{PacketState}
use Rattle.packets.specs.declared.packets.PacketState.TheVariants.{Waiting}
use Rattle.packets.specs.declared.packets.Standing.TheVariants.{Live}
use Rattle.packets.specs.Packets.{executed_as}

-- the place at which fetch goes on: a jump's literal, a branch's where its hint says so, else the
-- next
abbrev guess_for : ℕ → Option Instruction → ℕ
guess_for place None = following place
guess_for place (Some Halt) = following place
guess_for place (Some (Jump target)) = target
guess_for place (Some (Set destination word)) = following place
guess_for place (Some (BranchZero hint tested target)) = if hint then target else following place
guess_for place (Some (JumpRegister target guess)) = guess
guess_for place (Some (Load destination base offset)) = following place
guess_for place (Some (Store base stored offset)) = following place
guess_for place (Some (Compute operation destination first second)) = following place

abbrev pub guess_of : Fetched → ℕ
guess_of fetched = guess_for fetched.place fetched.instruction

-- a register's word is yet to come
abbrev pub source_for : Option Operand → Source
source_for None = Absent
source_for (Some (operand.Register register)) = Bound (record { register = register; word = 0; valid = false })
source_for (Some (operand.Literal word)) = Literal word

-- does it need no stage to execute it: a halt, a jump, a place past the end
abbrev pub at_once : Option Instruction → Bool
at_once None = true
at_once (Some Halt) = true
at_once (Some (Jump target)) = true
at_once (Some (Set destination word)) = false
at_once (Some (BranchZero hint tested target)) = false
at_once (Some (JumpRegister target guess)) = false
at_once (Some (Load destination base offset)) = false
at_once (Some (Store base stored offset)) = false
at_once (Some (Compute operation destination first second)) = false

abbrev pub no_words : Sources
no_words = record { first = 0; second = 0 }

-- what needs no stage enters executed
module _ (table : Table) (words : List ℕ) (handler : ℕ) (fetched : Fetched) where
  abbrev pub state_for : PacketState
  state_for =
      if at_once fetched.instruction then executed_as (guess_of fetched) (effect_of table words handler fetched no_words)
      else Waiting

  abbrev pub entering : Packet
  entering = record {
    fetched = fetched;
    guess = guess_of fetched;
    first = source_for (operands_at fetched.instruction).first;
    second = source_for (operands_at fetched.instruction).second;
    state = state_for;
    standing = Live;
  }
