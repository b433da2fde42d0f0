-- One turn of a loop: a move on the machine that the loop began with.
use Rattle.std.proofs.Common.{◌≡◌, ℕ, List, ap, ◌∙◌}
use Rattle.image.specs.declared.images.Image.{Image}
use Rattle.layout.specs.declared.layouts.Layout.{Layout}
use Rattle.layout.specs.Meaning.{sets_in}
use Rattle.effect.specs.Effects.{Table}
use Rattle.moves.specs.declared.kinds.Move.{Move}
use Rattle.moves.specs.Decoding.{number_of}
use Rattle.stepper.specs.View.{world_of}
use Rattle.pipes.specs.Moving.{Moved, moved}
use Rattle.pipeline.specs.declared.pipelines.Pipeline.{Pipeline}
use Rattle.pipeline.specs.Calls.{move_made}
use Rattle.pipeline.specs.Views.{image_in, layout_in, pipes_in, stages_in, world_in, SameMachine}

-- The parts are handed one by one: what a call leaves is the same machine by its parts, and not as
-- a whole, since it carries proofs of its own.
module _ {old new : Pipeline} where
  pub same_machine : image_in new ≡ image_in old → layout_in new ≡ layout_in old → SameMachine old new
  same_machine i l = record { image = i; layout = l }

  pub machine_then : {now : Pipeline} → SameMachine old now → image_in new ≡ image_in now → layout_in new ≡ layout_in now → SameMachine old new
  machine_then same i l = same_machine (i ∙ same.image) (l ∙ same.layout)

pub turned : (table : Table) {before now : Pipeline} (words : List ℕ) (m : Move) {d : Moved} → SameMachine before now → d ≡ move_made table now words (number_of m.kind) m.place →
    d ≡ moved (world_in before table) (stages_in before) (pipes_in now) words (number_of m.kind) m.place
turned table {before} {now} words m same e =
    e
    ∙ ap (λ (x : Image). moved (world_of table x) (stages_in now) now.pipes words (number_of m.kind) m.place) same.image
    ∙ ap (λ (x : Layout). moved (world_in before table) (sets_in x) now.pipes words (number_of m.kind) m.place) same.layout
