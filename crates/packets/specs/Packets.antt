-- What a packet has, lacks, owes and writes.
use Rattle.std.specs.Prelude.{ℕ, Bool, true, false, if◌then◌else◌, not, ◌&&◌, ◌||◌, is_some, Some, None, Option, ◌==◌}
use Rattle.instruction.specs.declared.numbers.Register.{Register}
use Rattle.instruction.specs.Named.{register_number}
use Rattle.effect.specs.declared.actions.Action.{Action}
use Rattle.effect.specs.declared.actions.Action.TheVariants.{Nothing, SetRegister, StoreWord, Trap, Halt}
use Rattle.effect.specs.declared.actions.Effect.{Effect}
use Rattle.effect.specs.declared.actions.Sources.{Sources}
use Rattle.packets.specs.declared.bindings.Source.{Source}
use Rattle.packets.specs.declared.bindings.Source.TheVariants.{Absent, Literal, Bound}
use Rattle.packets.specs.declared.packets.Packet.{Packet}
use Rattle.packets.specs.declared.packets.PacketState.{PacketState}
use Rattle.packets.specs.declared.packets.PacketState.TheVariants.{Waiting, Executed}
use Rattle.packets.specs.declared.packets.Standing.{Standing}
use Rattle.packets.specs.declared.packets.Standing.TheVariants.{Live, Killed}
use Rattle.packets.specs.declared.results.PipeResult.{PipeResult}
use Rattle.packets.specs.declared.results.PipeResult.TheVariants as result

-- do two names mean one register
abbrev pub same : Register → Register → Bool
same r q = register_number r == register_number q

-- has the word of a source come: a literal's is there from the start
abbrev pub valid : Source → Bool
valid Absent = true
valid (Literal word) = true
valid (Bound binding) = binding.valid

abbrev pub word_in : Source → ℕ
word_in Absent = 0
word_in (Literal word) = word
word_in (Bound binding) = binding.word

abbrev pub ready : Packet → Bool
ready p = valid p.first && valid p.second

abbrev pub sources_in : Packet → Sources
sources_in p = record { first = word_in p.first; second = word_in p.second }

-- What an effect owes the packets behind: the value of the register that it writes; where the next
-- place is not the one guessed, a wrong-branch; after a trap always a trap, whatever was guessed.
abbrev pub owed_by : ℕ → ℕ → Action → Option PipeResult
owed_by guess next Nothing = if next == guess then None else Some (result.WrongBranch next)
owed_by guess next (SetRegister register word) = Some (result.Value register word)
owed_by guess next (StoreWord address word) = None
owed_by guess next (Trap word) = Some (result.Trap next)
owed_by guess next Halt = None

abbrev pub executed_as : ℕ → Effect → PacketState
executed_as guess effect = Executed effect (owed_by guess effect.next effect.action)

-- what a packet owes
abbrev owed_in : PacketState → Option PipeResult
owed_in Waiting = None
owed_in (Executed effect owed) = owed

abbrev pub owing : Packet → Option PipeResult
owing p = owed_in p.state

abbrev pub is_live : Standing → Bool
is_live Live = true
is_live Killed = false

abbrev pub is_executed : PacketState → Bool
is_executed Waiting = false
is_executed (Executed effect owed) = true

-- what each move asks of its packet: EXECUTE that it waits and is live, INSERT that it owes and is
-- live, RETIRE that it is killed, or else executed and owing nothing
abbrev pub may_execute : Packet → Bool
may_execute p = is_live p.standing && not (is_executed p.state)

abbrev pub may_insert : Packet → Bool
may_insert p = is_live p.standing && is_some (owing p)

abbrev pub may_retire : Packet → Bool
may_retire p = not (is_live p.standing) || (is_executed p.state && not (is_some (owing p)))

-- RAISE asks for no stage above where the packet is killed or executed
abbrev pub may_pass : Packet → Bool
may_pass p = not (is_live p.standing) || is_executed p.state

abbrev pub with_state : Packet → PacketState → Packet
with_state p state = record p { state = state }

abbrev pub killed : Packet → Packet
killed p = record p { standing = Killed }

-- what is owed is owed no more
abbrev settled_state : PacketState → PacketState
settled_state Waiting = Waiting
settled_state (Executed effect owed) = Executed effect None

abbrev pub paid : Packet → Packet
paid p = with_state p (settled_state p.state)
