-- Each refusal of a layout, with its byte place.
use Rattle.std.specs.Prelude.{ℕ, ◌+◌, ◌*◌}
use Rattle.fields.specs.declared.refusal.Refusal.{Refusal}
use Rattle.fields.specs.declared.scanning.EntriesFault.TheVariants.{Short, Entry}
use Rattle.fields.specs.Refusals.{head_refusal}
use Rattle.layout.specs.declared.faults.SetFault.{SetFault}
use Rattle.layout.specs.declared.faults.SetFault.TheVariants.{Unheard, MemoryBelowTop}
use Rattle.layout.specs.declared.faults.LayoutFault.{LayoutFault}
use Rattle.layout.specs.declared.faults.LayoutFault.TheVariants.{Head, Stages, Sets}

abbrev pub set_number : SetFault → ℕ
set_number Unheard = 15
set_number MemoryBelowTop = 16

-- the head has six bytes, and each set four; where bytes are missing, the place is the number handed in
abbrev pub layout_refusal : LayoutFault → Refusal
layout_refusal (Head fault) = head_refusal 10 11 12 fault
layout_refusal Stages = record { number = 13; place = 5 }
layout_refusal (Sets (Short handed)) = record { number = 14; place = handed }
layout_refusal (Sets (Entry stage fault)) = record { number = set_number fault; place = 6 + 4 * stage }
