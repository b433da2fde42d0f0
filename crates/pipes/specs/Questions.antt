-- The questions that a move is asked, in their order.
use Rattle.std.specs.Prelude.{ℕ, ◌+◌, ◌-◌, Bool, false, cond, not, ◌&&◌, ◌||◌, List, length, is_some, Some, None, Option, ◌==◌, nat_lt, slice_index_or}
use Rattle.instruction.specs.declared.instructions.Instruction.{Instruction}
use Rattle.instruction.specs.Operations.{operation_of}
use Rattle.layout.specs.Able.{able, able_from}
use Rattle.moves.specs.declared.kinds.MoveKind.{MoveKind}
use Rattle.moves.specs.declared.kinds.MoveKind.TheVariants.{Fetch, Raise, Lower, Execute, Insert, Read, Retire, Drop}
use Rattle.moves.specs.Decoding.{kind_of}
use Rattle.packets.specs.declared.packets.Packet.{Packet}
use Rattle.packets.specs.declared.slots.ResultSlot.{ResultSlot}
use Rattle.packets.specs.declared.stages.Stage.{Stage}
use Rattle.packets.specs.Packets.{ready, may_execute, may_insert, may_retire, may_pass}
use Rattle.packets.specs.Stages.{vacant, free}
use Rattle.pipes.specs.declared.answers.MoveRefusal.{MoveRefusal}
use Rattle.pipes.specs.declared.answers.MoveRefusal.TheVariants.{Halted, UnknownKind, WrongPlace, NothingThere, FetchClosed, Occupied, WrongState, SourceMissing, NoStage}
use Rattle.pipes.specs.declared.state.Pipes.{Pipes}

abbrev pub move_number : MoveRefusal → ℕ
move_number Halted = 30
move_number UnknownKind = 31
move_number WrongPlace = 32
move_number NothingThere = 33
move_number FetchClosed = 34
move_number Occupied = 35
move_number WrongState = 36
move_number SourceMissing = 37
move_number NoStage = 38

abbrev pub stage_at : Pipes → ℕ → Stage
stage_at P s = slice_index_or P.stages s vacant

abbrev pub packet_at : Pipes → ℕ → Option Packet
packet_at P s = (stage_at P s).packet

abbrev pub slot_at : Pipes → ℕ → ResultSlot
slot_at P s = (stage_at P s).result

-- the top stage of a layout
abbrev pub top : List ℕ → ℕ
top sets = length sets - 1

-- is fetch open at a place
abbrev pub is_open : Option ℕ → Bool
is_open fetch = is_some fetch

-- is there a packet of which the test holds
abbrev pub holds_of : (Packet → Bool) → Option Packet → Bool
holds_of test None = false
holds_of test (Some p) = test p

-- can a stage execute what a packet carries
abbrev pub able_for : List ℕ → ℕ → Option Instruction → Bool
able_for sets s None = false
able_for sets s (Some i) = able sets s (operation_of i)

-- is some stage from s on able
abbrev pub some_able : List ℕ → ℕ → Option Instruction → Bool
some_able sets s None = false
some_able sets s (Some i) = able_from (length sets) sets s (operation_of i)

-- RAISE: the packet needs no stage any more, or some stage above is able
abbrev pub may_rise : List ℕ → ℕ → Packet → Bool
may_rise sets s p = may_pass p || some_able sets (s + 1) p.fetched.instruction

-- which places a kind of move may name, with n stages
abbrev pub place_right : ℕ → MoveKind → ℕ → Bool
place_right n Fetch place = place == 0
place_right n Raise place = nat_lt (place + 1) n
place_right n Lower place = nat_lt 0 place && nat_lt place n
place_right n Execute place = nat_lt place n
place_right n Insert place = nat_lt place n
place_right n Read place = nat_lt place 16
place_right n Retire place = place == 0
place_right n Drop place = place == 0

-- a question, the refusal if its answer is no, and the questions after it
abbrev pub asks : Bool → MoveRefusal → Option MoveRefusal → Option MoveRefusal
asks answer refusal next = cond answer next (Some refusal)

-- What each kind is asked, of the one or two stages that it looks at; a stage's number is handed in
-- where the answer depends on it.
abbrev pub ask_fetch : Option ℕ → Stage → Option MoveRefusal
ask_fetch fetch bottom = asks (is_open fetch) FetchClosed (asks (not (is_some bottom.packet)) Occupied None)

abbrev pub ask_raise : List ℕ → ℕ → Stage → Stage → Option MoveRefusal
ask_raise sets s here above =
    asks (is_some here.packet) NothingThere
    (asks (not (is_some above.packet)) Occupied
    (asks (holds_of (may_rise sets s) here.packet) NoStage None))

abbrev pub ask_lower : Stage → Stage → Option MoveRefusal
ask_lower here below = asks (not (free here.result)) NothingThere (asks (free below.result) Occupied None)

abbrev pub ask_execute : List ℕ → ℕ → Stage → Option MoveRefusal
ask_execute sets s here =
    asks (is_some here.packet) NothingThere
    (asks (holds_of may_execute here.packet) WrongState
    (asks (holds_of ready here.packet) SourceMissing
    (asks (holds_of (λ p. able_for sets s p.fetched.instruction) here.packet) NoStage None)))

abbrev pub ask_insert : Stage → Option MoveRefusal
ask_insert here =
    asks (is_some here.packet) NothingThere
    (asks (free here.result) Occupied
    (asks (holds_of may_insert here.packet) WrongState None))

abbrev pub ask_read : Stage → Option MoveRefusal
ask_read highest = asks (free highest.result) Occupied None

abbrev pub ask_retire : Stage → Option MoveRefusal
ask_retire highest = asks (is_some highest.packet) NothingThere (asks (holds_of may_retire highest.packet) WrongState None)

abbrev pub ask_drop : Stage → Option MoveRefusal
ask_drop bottom = asks (not (free bottom.result)) NothingThere None

module _ (sets : List ℕ) (P : Pipes) where
  abbrev pub questions : MoveKind → ℕ → Option MoveRefusal
  questions Fetch s = ask_fetch P.fetch (stage_at P 0)
  questions Raise s = ask_raise sets s (stage_at P s) (stage_at P (s + 1))
  questions Lower s = ask_lower (stage_at P s) (stage_at P (s - 1))
  questions Execute s = ask_execute sets s (stage_at P s)
  questions Insert s = ask_insert (stage_at P s)
  questions Read r = ask_read (stage_at P (top sets))
  questions Retire s = ask_retire (stage_at P (top sets))
  questions Drop s = ask_drop (stage_at P 0)

  abbrev pub asked : MoveKind → ℕ → Option MoveRefusal
  asked kind place = asks (place_right (length sets) kind place) WrongPlace (questions kind place)

  abbrev asked_by : Option MoveKind → ℕ → Option MoveRefusal
  asked_by None place = Some UnknownKind
  asked_by (Some kind) place = asked kind place

  -- the first question whose answer is no, for any two numbers as kind and place
  abbrev pub refusal_of : ℕ → ℕ → Option MoveRefusal
  refusal_of kind place = asks (not P.halted) Halted (asked_by (kind_of kind) place)
