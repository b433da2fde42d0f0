-- Which move a drain makes next.
use Rattle.std.specs.Prelude.{ℕ, zero, suc, ◌+◌, Bool, cond, List, length, take, position, is_some, Some, None, Option, ◌==◌, slice_index_or}
use Rattle.instruction.specs.Named.{register_number}
use Rattle.moves.specs.declared.kinds.Move.{Move}
use Rattle.moves.specs.declared.kinds.MoveKind.{MoveKind}
use Rattle.moves.specs.declared.kinds.MoveKind.TheVariants.{Fetch, Raise, Lower, Execute, Insert, Read, Retire, Drop}
use Rattle.packets.specs.declared.bindings.Source.{Source}
use Rattle.packets.specs.declared.bindings.Source.TheVariants.{Absent, Literal, Bound}
use Rattle.packets.specs.declared.packets.Packet.{Packet}
use Rattle.packets.specs.declared.packets.PacketState.{PacketState}
use Rattle.packets.specs.declared.packets.PacketState.TheVariants.{Waiting, Executed}
use Rattle.packets.specs.declared.packets.Standing.{Standing}
use Rattle.packets.specs.declared.packets.Standing.TheVariants.{Live, Killed}
use Rattle.packets.specs.declared.stages.Stage.{Stage}
use Rattle.packets.specs.Stages.{vacant, result_in}
use Rattle.pipes.specs.declared.state.Pipes.{Pipes}
use Rattle.pipes.specs.Questions.{packet_at, some_able}

abbrev pub move_to : MoveKind → ℕ → Move
move_to kind place = record { kind = kind; place = place }

-- among the first stages, the lowest with a result
abbrev pub lowest : List Stage → ℕ → Option ℕ
lowest xs n = position (λ x. is_some (result_in x)) (take n xs)

-- among the first stages, the highest with a packet
abbrev pub highest : List Stage → ℕ → Option ℕ
highest xs zero = None
highest xs (suc s) = cond (is_some (slice_index_or xs s vacant).packet) (Some s) (highest xs s)

-- the register whose word a source still misses
abbrev pub awaits : Source → Option ℕ
awaits Absent = None
awaits (Literal word) = None
awaits (Bound binding) = cond binding.valid None (Some (register_number binding.register))

abbrev pub first_of : Option ℕ → Option ℕ → Option ℕ
first_of (Some r) second = Some r
first_of None second = second

abbrev pub missing : Packet → Option ℕ
missing p = first_of (awaits p.first) (awaits p.second)

-- up, and out at the top
abbrev pub onward : List ℕ → ℕ → Move
onward sets s = cond (s + 1 == length sets) (move_to Retire 0) (move_to Raise s)

-- a packet with all its words executes in the last stage that can
abbrev pub wants_word : Option ℕ → Bool → ℕ → Move
wants_word (Some r) above s = move_to Read r
wants_word None above s = cond above (move_to Raise s) (move_to Execute s)

module _ (sets : List ℕ) (s : ℕ) (p : Packet) where
  abbrev pub wants_live : PacketState → Move
  wants_live Waiting = wants_word (missing p) (some_able sets (s + 1) p.fetched.instruction) s
  wants_live (Executed effect (Some owed)) = move_to Insert s
  wants_live (Executed effect None) = onward sets s

  abbrev pub wants_by : Standing → Move
  wants_by Killed = onward sets s
  wants_by Live = wants_live p.state

  -- what the packet of a stage wants, where no result is in flight
  abbrev pub wants : Move
  wants = wants_by p.standing

abbrev pub wants_in : List ℕ → ℕ → Option Packet → Move
wants_in sets s None = move_to Fetch 0
wants_in sets s (Some p) = wants sets s p

abbrev pub upward : List ℕ → Pipes → Option ℕ → Move
upward sets P None = move_to Fetch 0
upward sets P (Some s) = wants_in sets s (packet_at P s)

abbrev pub downward : ℕ → Move
downward zero = move_to Drop 0
downward (suc s) = move_to Lower (suc s)

abbrev pub chosen_by : List ℕ → Pipes → Option ℕ → Option ℕ → Move
chosen_by sets P (Some s) h = downward s
chosen_by sets P None h = upward sets P h

-- results first, the lowest first; then the highest packet; a fetch where there is none
abbrev pub chosen : List ℕ → Pipes → Move
chosen sets P = chosen_by sets P (lowest P.stages (length sets)) (highest P.stages (length sets))
