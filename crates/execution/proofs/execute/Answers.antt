use Rattle.execution.proofs.Whole.{promised}
use Rattle.execution.proofs.execute.Goals as goal

pub returns : goal.returns
returns g c =
    let new = c.new-stepper.ensures in
    let ran = c.run_over-steps.ensures in
    promised _ _ _ _ _ _ _ _ _ new.image (new.state _) ran.ran c.args.bytes.now _ c.in_ok-image.ensures ran.beyond _ _ c.count.ensures.value c.halted.ensures
