-- What is promised of every pipeline that is built.
use Rattle.fit.specs.Fitting.{All, placed}
use Rattle.image.specs.declared.images.Image.{Image}
use Rattle.image.specs.Meaning.{program, handler_in}
use Rattle.layout.specs.declared.layouts.Layout.{Layout}
use Rattle.layout.specs.Meaning.{sets_in}
use Rattle.stepper.specs.View.{world_of}
use Rattle.draining.proofs.Reaching.{drains}
use Rattle.agreement.proofs.Layouts.{read_laid}
use Rattle.agreement.proofs.Theorem.{agreement, drains_next}
use Rattle.pipeline.specs.Theorem.{NeverParted, AlwaysDrains}
use Rattle.pipeline.proofs.Sounds.{succession_sound}

pub never_parted : (image : Image) (layout : Layout) → NeverParted image layout
never_parted image layout other table table' alike =
    agreement table table' (program image) (handler_in image) alike (sets_in layout) (sets_in other) (read_laid layout) (read_laid other)

pub always_drains : (image : Image) (layout : Layout) → All (placed (sets_in layout)) (program image) → AlwaysDrains image layout
always_drains image layout fit table first P words rs s runs =
    let W = world_of table image in
    let sets = sets_in layout in
    let laid = read_laid layout in
    (drains W sets P words fit laid.low laid.high (succession_sound W sets fit laid s) runs, drains_next W sets laid first P words rs s runs)
