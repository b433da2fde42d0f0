-- What a pipeline shows: the image and the layout that it was built on, and its pipes.
use Rattle.std.specs.Prelude.{◌≡◌, ℕ, cond, List, length, Some, None, Option, nat_lt}
use Rattle.image.specs.declared.images.Image.{Image}
use Rattle.layout.specs.declared.layouts.Layout.{Layout}
use Rattle.layout.specs.Meaning.{sets_in}
use Rattle.effect.specs.Effects.{Table}
use Rattle.stepper.specs.Machine.{World}
use Rattle.stepper.specs.View.{world_of}
use Rattle.packets.specs.declared.stages.Stage.{Stage}
use Rattle.pipes.specs.declared.state.Pipes.{Pipes}
use Rattle.pipes.specs.Questions.{stage_at}
use Rattle.pipeline.specs.declared.pipelines.Pipeline.{Pipeline}

module _ (p : Pipeline) where
  abbrev pub image_in : Image
  image_in = p.image

  abbrev pub layout_in : Layout
  layout_in = p.layout

  abbrev pub pipes_in : Pipes
  pipes_in = p.pipes

  -- its stages, each by the set of operations that it can execute
  abbrev pub stages_in : List ℕ
  stages_in = sets_in layout_in

  -- what its instructions mean, over a unit's table
  abbrev pub world_in : Table → World
  world_in table = world_of table image_in

  -- what stands in a stage; none at or past the top
  abbrev pub slot_of : ℕ → Option Stage
  slot_of s = cond (nat_lt s (length stages_in)) (Some (stage_at pipes_in s)) None

-- the same image and the same layout, whatever the pipes are
pub record SameMachine (old new : Pipeline) : Type 0 where
  pub image : image_in new ≡ image_in old
  pub layout : layout_in new ≡ layout_in old
