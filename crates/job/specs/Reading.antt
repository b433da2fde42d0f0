-- What a job is read as: an image, a layout, a move list, and nothing left over.
use Rattle.std.specs.Prelude.{ℕ, ◌-◌, cond, List, length, Ok, Err, Result, ◌==◌}
use Rattle.instruction.specs.declared.instructions.Instruction.{Instruction}
use Rattle.image.specs.declared.faults.ImageFault.{ImageFault}
use Rattle.image.specs.Reading.{image_of}
use Rattle.image.specs.Reading as image
use Rattle.layout.specs.declared.faults.LayoutFault.{LayoutFault}
use Rattle.layout.specs.Reading.{layout_of}
use Rattle.layout.specs.Reading as layout
use Rattle.moves.specs.declared.kinds.Move.{Move}
use Rattle.moves.specs.declared.faults.MoveListFault.{MoveListFault}
use Rattle.moves.specs.Reading.{moves_of}
use Rattle.moves.specs.Reading as moves
use Rattle.job.specs.declared.faults.JobFault.{JobFault}
use Rattle.job.specs.declared.faults.JobFault.TheVariants.{Image, Layout, Moves, LeftOver}

-- where what is left of so many bytes begins
abbrev pub begin_of : ℕ → List ℕ → ℕ
begin_of total rest = total - length rest

abbrev pub image_step : Result image.Contents ImageFault → Result image.Contents JobFault
image_step (Ok told) = Ok told
image_step (Err fault) = Err (Image fault)

abbrev pub layout_step : ℕ → Result layout.Contents LayoutFault → Result layout.Contents JobFault
layout_step at (Ok told) = Ok told
layout_step at (Err fault) = Err (Layout at fault)

abbrev pub moves_step : ℕ → ℕ → Result moves.Contents MoveListFault → Result moves.Contents JobFault
moves_step total at (Ok told) = cond (length told.rest == 0) (Ok told) (Err (LeftOver (begin_of total told.rest)))
moves_step total at (Err fault) = Err (Moves at fault)

-- what reading a job tells
pub record Contents : Type 0 where
  pub version : ℕ
  pub handler : ℕ
  pub program : List Instruction
  pub sets : List ℕ
  pub moves : List Move

abbrev pub joined : image.Contents → layout.Contents → moves.Contents → Contents
joined i l m = record { version = i.version; handler = i.handler; program = i.program; sets = l.sets; moves = m.moves }

abbrev pub after_layout : image.Contents → layout.Contents → Result moves.Contents JobFault → Result Contents JobFault
after_layout i l (Ok m) = Ok (joined i l m)
after_layout i l (Err fault) = Err fault

abbrev pub after_image : ℕ → image.Contents → Result layout.Contents JobFault → Result Contents JobFault
after_image total i (Ok l) = after_layout i l (moves_step total (begin_of total l.rest) (moves_of l.rest))
after_image total i (Err fault) = Err fault

abbrev pub from_image : ℕ → Result image.Contents JobFault → Result Contents JobFault
from_image total (Ok i) = after_image total i (layout_step (begin_of total i.rest) (layout_of i.rest))
from_image total (Err fault) = Err fault

-- the job that the bytes are, or the first question whose answer is no
abbrev pub job_of : List ℕ → Result Contents JobFault
job_of bytes = from_image (length bytes) (image_step (image_of bytes))

-- what reading a core tells
pub record Core : Type 0 where
  pub version : ℕ
  pub handler : ℕ
  pub program : List Instruction
  pub sets : List ℕ

abbrev pub paired : image.Contents → List ℕ → Core
paired i sets = record { version = i.version; handler = i.handler; program = i.program; sets = sets }

-- an image and a layout behind which so much is left
abbrev pub ended : ℕ → Core → List ℕ → Result Core JobFault
ended total core rest = cond (length rest == 0) (Ok core) (Err (LeftOver (begin_of total rest)))

abbrev pub core_after : ℕ → image.Contents → Result layout.Contents JobFault → Result Core JobFault
core_after total i (Ok l) = ended total (paired i l.sets) l.rest
core_after total i (Err fault) = Err fault

abbrev pub core_from : ℕ → Result image.Contents JobFault → Result Core JobFault
core_from total (Ok i) = core_after total i (layout_step (begin_of total i.rest) (layout_of i.rest))
core_from total (Err fault) = Err fault

-- the core that the bytes are, or the first question whose answer is no
abbrev pub core_of : List ℕ → Result Core JobFault
core_of bytes = core_from (length bytes) (image_step (image_of bytes))
