use Rattle.std.proofs.Common.{refl}
use Rattle.pipeline.proofs.Promise.{never_parted, always_drains}
use Rattle.pipeline.proofs.pipelines.Pipeline.build.Goals as goal

pub returns : goal.returns
returns c =
    let fitted = c.args.fitted in
    record {
      image = refl;
      layout = refl;
      pipes = cc c.vacant.ensures;
      parted = never_parted fitted.image fitted.layout;
      drains = always_drains fitted.image fitted.layout fitted.fits;
    }
