-- What a job in memory means: its image, its layout and its moves.
use Rattle.std.specs.Prelude.{[]}
use Rattle.image.specs.Meaning as image
use Rattle.layout.specs.Meaning as layout
use Rattle.moves.specs.declared.lists.MoveList.{MoveList}
use Rattle.moves.specs.Meaning as moves
use Rattle.moves.specs.Reading as list
use Rattle.job.specs.declared.states.Job.{Job}
use Rattle.image.specs.declared.images.Image.{Image}
use Rattle.layout.specs.declared.layouts.Layout.{Layout}
use Rattle.job.specs.declared.states.Core.{Core}
use Rattle.job.specs.Reading.{Contents}
use Rattle.job.specs.Reading as reading

-- a move list after which nothing is left
abbrev pub whole_told : MoveList → list.Contents
whole_told p = moves.told p []

abbrev pub told : Job → Contents
told job = record {
  version = image.version_in job.image;
  handler = image.handler_in job.image;
  program = image.program job.image;
  sets = layout.sets_in job.layout;
  moves = moves.moves_in job.moves;
}

abbrev pub pair_told : Image → Layout → reading.Core
pair_told i l = record {
  version = image.version_in i;
  handler = image.handler_in i;
  program = image.program i;
  sets = layout.sets_in l;
}

abbrev pub core_told : Core → reading.Core
core_told core = pair_told core.image core.layout
