-- A stage, and what a move leaves of it.
use Rattle.std.specs.Prelude.{ℕ, Bool, not, List, is_some, Some, None, Option}
use Rattle.effect.specs.Effects.{Table, effect_of}
use Rattle.packets.specs.declared.packets.Packet.{Packet}
use Rattle.packets.specs.declared.results.PipeResult.{PipeResult}
use Rattle.packets.specs.declared.slots.ResultSlot.{ResultSlot}
use Rattle.packets.specs.declared.stages.Stage.{Stage}
use Rattle.packets.specs.Packets.{sources_in, executed_as, with_state, paid, owing}
use Rattle.packets.specs.Meeting.{met_packet, met_result}

abbrev pub slot : Option PipeResult → ResultSlot
slot held = record { held = held }

-- is there room for a result
abbrev pub free : ResultSlot → Bool
free s = not (is_some s.held)

abbrev pub staged : Option Packet → Option PipeResult → Stage
staged packet held = record { packet = packet; result = slot held }

-- both slots empty
abbrev pub vacant : Stage
vacant = staged None None

abbrev pub result_in : Stage → Option PipeResult
result_in x = x.result.held

-- what stands in a stage after a meeting
abbrev pub met : Option Packet → Option PipeResult → Stage
met None held = staged None held
met (Some p) None = staged (Some p) None
met (Some p) (Some r) = staged (Some (met_packet p r)) (met_result p r)

abbrev pub meeting : Stage → Stage
meeting x = met x.packet (result_in x)

-- EXECUTE: the packet's effect is worked out from its own words
module _ (table : Table) (words : List ℕ) (handler : ℕ) where
  abbrev pub worked : Packet → Packet
  worked p = with_state p (executed_as p.guess (effect_of table words handler p.fetched (sources_in p)))

  abbrev worked_in : Option Packet → Option Packet
  worked_in None = None
  worked_in (Some p) = Some (worked p)

  abbrev pub executing : Stage → Stage
  executing x = staged (worked_in x.packet) (result_in x)

-- INSERT: what the packet owes enters the result slot, and meets nobody
abbrev inserted_from : Option Packet → Option PipeResult → Stage
inserted_from None held = staged None held
inserted_from (Some p) held = staged (Some (paid p)) (owing p)

abbrev pub inserting : Stage → Stage
inserting x = inserted_from x.packet (result_in x)
