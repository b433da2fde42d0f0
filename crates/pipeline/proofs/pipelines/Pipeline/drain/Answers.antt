use Rattle.std.proofs.Common.{◌≤◌, ◌<◌, length, refl, ap, ◌∙◌, arith, Ok}
use Rattle.bounded_log.specs.Room.{room}
use Rattle.pipes.specs.Draining.{bound}
use Rattle.pipeline.specs.Views.{pipes_in, stages_in}
use Rattle.pipeline.proofs.Turns.{same_machine, machine_then}
use Rattle.pipeline.proofs.Draws.{refusal_halted, refusal_short, drains_not, drawing_none, turn_of, never, drawing_falls, drawing_more, drains_last}
use Rattle.pipeline.proofs.pipelines.Pipeline.drain.Goals as goal

pub returns-then-self : goal.returns-then-self
returns-then-self g c =
    let before = c.args.self.now in
    let halted = refusal_halted (stages_in before) (pipes_in before) (room c.args.log.now) c.if-self.true in
    record { drained = drains_not _ _ _ _ halted refl; machine = same_machine refl refl; kept = refl }

pub returns-then-free-most_moves : goal.returns-then-free-most_moves
returns-then-free-most_moves g c =
    let before = c.args.self.now in
    let less : room c.args.log.now < bound (length (stages_in c.args.self.now)) = omega (arith, c.free.ensures, c.most_moves.ensures) in
    let short = refusal_short (stages_in before) (pipes_in before) (room c.args.log.now) c.if-self.false less in
    record { drained = drains_not _ _ _ _ short refl; machine = same_machine refl refl; kept = refl }

pub loop-retirement-init : goal.loop-retirement-init
loop-retirement-init g c =
    let before = c.args.self.now in
    let enough : bound (length (stages_in c.args.self.now)) ≤ room c.args.log.now = omega (arith, c.free.ensures, c.most_moves.ensures, c.if-free-most_moves.false) in
    (drawing_none before.sound c.if-self.false enough refl, same_machine refl refl, refl)

pub loop-retirement-smaller : goal.loop-retirement-smaller
loop-retirement-smaller g c =
    let inv = c.loop-retirement.invariant in
    let turn = turn_of (g.U.Unit.table c.args.unit.now) inv.1 inv.0 c.choose-next.ensures c.make-answer.ensures.made in
    drawing_falls turn (c.in-Ok-None.is ∙ ap Ok (rw c.in-Ok-None.is at c.in-Ok-None.field-0-is))

pub loop-retirement-preserved : goal.loop-retirement-preserved
loop-retirement-preserved g c =
    let inv = c.loop-retirement.invariant in
    let turn = turn_of (g.U.Unit.table c.args.unit.now) inv.1 inv.0 c.choose-next.ensures c.make-answer.ensures.made in
    let more = drawing_more turn c.add.ensures.logs (c.in-Ok-None.is ∙ ap Ok (rw c.in-Ok-None.is at c.in-Ok-None.field-0-is)) in
    (more, machine_then inv.1 c.make-answer.ensures.machine.image c.make-answer.ensures.machine.layout, c.make-answer.ensures.kept ∙ inv.2)

pub unreachable-requires : goal.unreachable-requires
unreachable-requires g c =
    let inv = c.loop-retirement.invariant in
    never (turn_of (g.U.Unit.table c.args.unit.now) inv.1 inv.0 c.choose-next.ensures c.make-answer.ensures.made) c.in-Err.is

pub returns-in-Ok-Some : goal.returns-in-Ok-Some
returns-in-Ok-Some g c =
    let inv = c.loop-retirement.invariant in
    let turn = turn_of (g.U.Unit.table c.args.unit.now) inv.1 inv.0 c.choose-next.ensures c.make-answer.ensures.made in
    record {
      drained = drains_last turn c.add.ensures.logs (c.in-Ok-Some.is ∙ ap Ok (rw c.in-Ok-Some.is at c.in-Ok-Some.field-0-is));
      machine = machine_then inv.1 c.make-answer.ensures.machine.image c.make-answer.ensures.machine.layout;
      kept = c.make-answer.ensures.kept ∙ inv.2;
    }
