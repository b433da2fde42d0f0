-- Each refusal of an image, with its byte place.
use Rattle.std.specs.Prelude.{◌+◌, ◌*◌}
use Rattle.fields.specs.declared.refusal.Refusal.{Refusal}
use Rattle.fields.specs.declared.scanning.EntriesFault.TheVariants.{Short, Entry}
use Rattle.fields.specs.Refusals.{head_refusal}
use Rattle.record.specs.Faults.{record_number, record_offset}
use Rattle.image.specs.declared.faults.ImageFault.{ImageFault}
use Rattle.image.specs.declared.faults.ImageFault.TheVariants.{Head, Count, Handler, Records}

-- the head has nine bytes, and each record eight; where bytes are missing, the place is the number handed in
abbrev pub image_refusal : ImageFault → Refusal
image_refusal (Head fault) = head_refusal 1 2 3 fault
image_refusal Count = record { number = 4; place = 5 }
image_refusal Handler = record { number = 5; place = 7 }
image_refusal (Records (Short handed)) = record { number = 6; place = handed }
image_refusal (Records (Entry index fault)) = record { number = record_number fault; place = 9 + 8 * index + record_offset fault }
