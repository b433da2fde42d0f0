-- Each refusal of a move list, with its byte place.
use Rattle.std.specs.Prelude.{ℕ, ◌+◌, ◌*◌}
use Rattle.fields.specs.declared.refusal.Refusal.{Refusal}
use Rattle.fields.specs.declared.scanning.EntriesFault.TheVariants.{Short, Entry}
use Rattle.fields.specs.Refusals.{head_refusal}
use Rattle.moves.specs.declared.faults.MoveFault.{MoveFault}
use Rattle.moves.specs.declared.faults.MoveFault.TheVariants.{Kind, Place}
use Rattle.moves.specs.declared.faults.MoveListFault.{MoveListFault}
use Rattle.moves.specs.declared.faults.MoveListFault.TheVariants.{Head, Count, Moves}

abbrev pub move_number : MoveFault → ℕ
move_number Kind = 22
move_number Place = 23

abbrev pub move_offset : MoveFault → ℕ
move_offset Kind = 0
move_offset Place = 1

-- the head has seven bytes, and each move two; where bytes are missing, the place is the number handed in
abbrev pub list_refusal : MoveListFault → Refusal
list_refusal (Head fault) = head_refusal 17 18 19 fault
list_refusal Count = record { number = 20; place = 5 }
list_refusal (Moves (Short handed)) = record { number = 21; place = handed }
list_refusal (Moves (Entry index fault)) = record { number = move_number fault; place = 7 + 2 * index + move_offset fault }
