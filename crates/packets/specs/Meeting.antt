-- What a packet and a result do to each other where they meet.
use Rattle.std.specs.Prelude.{ℕ, Bool, true, false, if◌then◌else◌, not, ◌&&◌, Some, None, Option, ◌==◌}
use Rattle.instruction.specs.declared.numbers.Register.{Register}
use Rattle.instruction.specs.declared.instructions.Instruction.{Instruction}
use Rattle.instruction.specs.declared.instructions.Instruction.TheVariants as instruction
use Rattle.instruction.specs.Named.{register_number}
use Rattle.effect.specs.declared.actions.Action.{Action}
use Rattle.effect.specs.declared.actions.Action.TheVariants.{Nothing, SetRegister, StoreWord, Trap, Halt}
use Rattle.packets.specs.declared.bindings.Binding.{Binding}
use Rattle.packets.specs.declared.bindings.Source.{Source}
use Rattle.packets.specs.declared.bindings.Source.TheVariants.{Absent, Literal, Bound}
use Rattle.packets.specs.declared.packets.Packet.{Packet}
use Rattle.packets.specs.declared.packets.PacketState.{PacketState}
use Rattle.packets.specs.declared.packets.PacketState.TheVariants.{Waiting, Executed}
use Rattle.packets.specs.declared.packets.Standing.{Standing}
use Rattle.packets.specs.declared.packets.Standing.TheVariants.{Live, Killed}
use Rattle.packets.specs.declared.results.PipeResult.{PipeResult}
use Rattle.packets.specs.declared.results.PipeResult.TheVariants as result
use Rattle.packets.specs.Packets.{same, killed}

-- a source that waits for the register takes the word
abbrev pub bound : Register → ℕ → Binding → Binding
bound register word b = if not b.valid && same b.register register then record b { word = word; valid = true } else b

abbrev pub garnered : Register → ℕ → Source → Source
garnered register word Absent = Absent
garnered register word (Literal w) = Literal w
garnered register word (Bound b) = Bound (bound register word b)

abbrev pub garnering : Register → ℕ → Packet → Packet
garnering register word p = record p { first = garnered register word p.first; second = garnered register word p.second }

-- the register that an instruction will write if it does not trap
abbrev pub destination_of : Option Instruction → Option Register
destination_of None = None
destination_of (Some instruction.Halt) = None
destination_of (Some (instruction.Jump target)) = None
destination_of (Some (instruction.Set destination word)) = Some destination
destination_of (Some (instruction.BranchZero hint tested target)) = None
destination_of (Some (instruction.JumpRegister target guess)) = None
destination_of (Some (instruction.Load destination base offset)) = Some destination
destination_of (Some (instruction.Store base stored offset)) = None
destination_of (Some (instruction.Compute operation destination first second)) = Some destination

abbrev pub names : Option Register → Register → Bool
names None register = false
names (Some destination) register = same destination register

-- the word of a register behind an action, where it was this word before: a trap writes r15 alone
abbrev pub behind : Action → Register → ℕ → ℕ
behind Nothing register word = word
behind (SetRegister destination written) register word = if same destination register then written else word
behind (StoreWord address written) register word = word
behind (Trap written) register word = if 15 == register_number register then written else word
behind Halt register word = word

-- the value that goes on below a packet: what a waiting one will write itself vanishes
abbrev pub passed_by : Option Instruction → Register → ℕ → PacketState → Option PipeResult
passed_by found register word Waiting = if names (destination_of found) register then None else Some (result.Value register word)
passed_by found register word (Executed effect owed) = Some (result.Value register (behind effect.action register word))

abbrev pub passed : Packet → Register → ℕ → Option PipeResult
passed p register word = passed_by p.fetched.instruction register word p.state

-- a killed packet does nothing; a live one garners a value, and a wrong-branch or a trap kills it
abbrev packet_if : Standing → Packet → PipeResult → Packet
packet_if Killed p r = p
packet_if Live p (result.Value register word) = garnering register word p
packet_if Live p (result.WrongBranch target) = killed p
packet_if Live p (result.Trap handler) = killed p

abbrev pub met_packet : Packet → PipeResult → Packet
met_packet p r = packet_if p.standing p r

-- a wrong-branch and a trap stay; a value goes on as the packet leaves it
abbrev result_if : Standing → Packet → PipeResult → Option PipeResult
result_if Killed p r = Some r
result_if Live p (result.Value register word) = passed p register word
result_if Live p (result.WrongBranch target) = Some (result.WrongBranch target)
result_if Live p (result.Trap handler) = Some (result.Trap handler)

abbrev pub met_result : Packet → PipeResult → Option PipeResult
met_result p r = result_if p.standing p r
