-- Each refusal of a job, with its byte place.
use Rattle.std.specs.Prelude.{ℕ, ◌+◌, ◌-◌, ◌^◌, min}
use Rattle.fields.specs.declared.refusal.Refusal.{Refusal}
use Rattle.image.specs.Faults.{image_refusal}
use Rattle.layout.specs.Faults.{layout_refusal}
use Rattle.moves.specs.Faults.{list_refusal}
use Rattle.job.specs.declared.faults.JobFault.{JobFault}
use Rattle.job.specs.declared.faults.JobFault.TheVariants.{Image, Layout, Moves, LeftOver}

-- a part's refusal, counted from the job's first byte: no slice is so long that the sum stops at 2 ^ 64 - 1
abbrev pub moved_on : Refusal → ℕ → Refusal
moved_on refusal at = record { number = refusal.number; place = min (at + refusal.place) (2 ^ 64 - 1) }

abbrev pub job_refusal : JobFault → Refusal
job_refusal (Image fault) = image_refusal fault
job_refusal (Layout at fault) = moved_on (layout_refusal fault) at
job_refusal (Moves at fault) = moved_on (list_refusal fault) at
job_refusal (LeftOver at) = record { number = 24; place = at }
