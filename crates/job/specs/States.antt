-- What the states of reading a job show: how many bytes it has, the parts that are read, and the bytes left.
use Rattle.std.specs.Prelude.{ℕ, List, Result}
use Rattle.image.specs.declared.images.Image.{Image}
use Rattle.image.specs.Reading as image
use Rattle.layout.specs.declared.layouts.Layout.{Layout}
use Rattle.layout.specs.Reading as layout
use Rattle.moves.specs.Reading as moves
use Rattle.job.specs.declared.faults.JobFault.{JobFault}
use Rattle.job.specs.declared.states.JobBytes.{JobBytes}
use Rattle.job.specs.declared.states.JobWithImage.{JobWithImage}
use Rattle.job.specs.declared.states.JobWithLayout.{JobWithLayout}
use Rattle.job.specs.Meaning.{pair_told}
use Rattle.job.specs.Reading as reading
use Rattle.job.specs.Reading.{begin_of, image_step, layout_step, moves_step}

-- the bytes of a job, none of which is read
abbrev pub bytes_in : JobBytes → List ℕ
bytes_in s = s.bytes.now

-- behind the image
abbrev pub image_total : JobWithImage → ℕ
image_total s = s.length

abbrev pub image_read : JobWithImage → Image
image_read s = s.image

abbrev pub image_left : JobWithImage → List ℕ
image_left s = s.rest.now

-- behind the layout
abbrev pub layout_total : JobWithLayout → ℕ
layout_total s = s.length

abbrev pub layout_image : JobWithLayout → Image
layout_image s = s.image

abbrev pub layout_read : JobWithLayout → Layout
layout_read s = s.layout

abbrev pub layout_left : JobWithLayout → List ℕ
layout_left s = s.rest.now

-- what reading the next part answers
abbrev pub image_next : JobBytes → Result image.Contents JobFault
image_next s = image_step (image.image_of (bytes_in s))

abbrev pub layout_next : JobWithImage → Result layout.Contents JobFault
layout_next s = layout_step (begin_of (image_total s) (image_left s)) (layout.layout_of (image_left s))

abbrev pub moves_next : JobWithLayout → Result moves.Contents JobFault
moves_next s = moves_step (layout_total s) (begin_of (layout_total s) (layout_left s)) (moves.moves_of (layout_left s))

-- what ending behind the layout answers
abbrev pub core_next : JobWithLayout → Result reading.Core JobFault
core_next s = reading.ended (layout_total s) (pair_told (layout_image s) (layout_read s)) (layout_left s)
