use Rattle.std.proofs.Common.{◌≡◌, ◌<◌, ap, ◌∙◌, arith}
use Rattle.bounded_log.specs.Room.{room}
use Rattle.bounded_log.proofs.Logged.{logs_one, logs_room}
use Rattle.image.specs.declared.images.Image.{Image}
use Rattle.stepper.specs.Machine.{answer_of, stepped}
use Rattle.stepper.specs.View.{view, world_of}
use Rattle.stepper.proofs.Executions.{answered_ok, answered_err, halted_stays, reached_more, reached_halt}
use Rattle.stepper.proofs.state.Stepper.run.Goals as goal

pub loop-made-preserved : goal.loop-made-preserved
loop-made-preserved g c =
    let table = g.U.Unit.table c.args.unit.now in
    let W = world_of table c.args.self.now.image in
    let T = view c.loop-made.self (g.M.Readable.words c.loop-made.memory) in
    let inv = c.loop-made.invariant in
    let reached = inv.reached in
    let free : 0 < room c.loop-made.log =
    omega (arith, c.free-room.ensures, reached.steps, logs_room reached.logs (omega (arith, c.free-room.ensures, reached.steps))) in
    let told = answered_ok W T c.in-Ok.record (c.in-Ok.ensures.value ∙ ap (λ (i : Image). answer_of (world_of table i) T) inv.image) in
    let onward = c.step.ensures.after ∙ ap (λ (i : Image). stepped (world_of table i) T) inv.image in
    let one = logs_one c.in-Ok.record free c.add.ensures.logs in
    record {
      reached = reached_more W _ c.loop-made.made T _ reached told.0 onward (rw (← told.1) one);
      image = c.step.ensures.image ∙ inv.image;
      kept = c.step.ensures.kept ∙ inv.kept;
    }

pub returns-in_default-clause-ran : goal.returns-in_default-clause-ran
returns-in_default-clause-ran g c =
    let table = g.U.Unit.table c.args.unit.now in
    let W = world_of table c.args.self.now.image in
    let T = view c.loop-made.self (g.M.Readable.words c.loop-made.memory) in
    let inv = c.loop-made.invariant in
    let halted = answered_err W T c.in_default.field-0 (c.in_default.ensures.value ∙ ap (λ (i : Image). answer_of (world_of table i) T) inv.image) in
    let over = reached_halt W _ c.loop-made.made _ T (omega (arith, c.free-room.ensures)) inv.reached halted in
    let still = c.step.ensures.after ∙ halted_stays (world_of table c.loop-made.self.image) 1 T halted in
    record { made = over.steps; logs = over.logs; state = still ∙ over.state; image = c.step.ensures.image ∙ inv.image }

pub returns-clause-ran : goal.returns-clause-ran
returns-clause-ran g c =
    let inv = c.loop-made.invariant in
    let end : c.loop-made.made ≡ c.free-room.result = omega arith in
    let over = rw (end ∙ c.free-room.ensures) at inv.reached in
    record { made = c.free-room.ensures ∙ over.steps; logs = over.logs; state = over.state; image = inv.image }
