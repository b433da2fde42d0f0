use Rattle.std.proofs.Common.{◌<◌, ◌≤◌, length, refl, ap, ◌∙◌, arith}
use Rattle.bounded_log.specs.Room.{room}
use Rattle.moves.specs.Meaning.{moves_in}
use Rattle.pipes.specs.Running.{retirements}
use Rattle.pipes.proofs.Runs.{underway_none, underway_free, underway_more, runs_over, runs_refused}
use Rattle.pipeline.specs.Views.{pipes_in, stages_in, world_in}
use Rattle.pipeline.proofs.Turns.{same_machine, machine_then, turned}
use Rattle.pipeline.proofs.pipelines.Pipeline.run.Goals as goal

pub loop-next-init : goal.loop-next-init
loop-next-init g c =
    let before = c.args.self.now in
    let words = g.M.Readable.words c.args.memory.now in
    let free : retirements (moves_in c.args.moves.now) ≤ room c.args.log.now = omega (arith, c.retirements.ensures, c.free.ensures) in
    let all = c.into_iter-next-iterator.ensures.into_iter_gives.0 in
    let none = underway_none {W = world_in before (g.U.Unit.table c.args.unit.now)} {sets = stages_in before} {P = pipes_in before} {words = words} free refl in
    (rw all none, same_machine refl refl, refl)

pub loop-next-preserved : goal.loop-next-preserved
loop-next-preserved g c =
    let inv = c.loop-next.invariant in
    let turn = turned (g.U.Unit.table c.args.unit.now) (g.M.Readable.words c.loop-next.memory) c.in-Some.next inv.1 c.make-answer.ensures.made in
    let more = underway_more inv.0 c.in-Some.ensures.steps turn c.note.ensures.logs in
    (rw c.note.ensures.figures more, machine_then inv.1 c.make-answer.ensures.machine.image c.make-answer.ensures.machine.layout, c.make-answer.ensures.kept ∙ inv.2)

pub note-requires-clause-few : goal.note-requires-clause-few
note-requires-clause-few g c =
    let u = c.loop-next.invariant.0 in
    let next = ap length c.in-Some.ensures.steps in
    let made = u.made in
    let few = u.few in
    let most = c.into_iter-next-iterator.ensures.into_iter_gives.1 in
    let all = ap length c.into_iter-next-iterator.ensures.into_iter_gives.0 in
    (omega arith, (omega arith, omega arith))

pub note-requires-clause-free : goal.note-requires-clause-free
note-requires-clause-free g c =
    let inv = c.loop-next.invariant in
    underway_free inv.0 c.in-Some.ensures.steps (turned (g.U.Unit.table c.args.unit.now) (g.M.Readable.words c.loop-next.memory) c.in-Some.next inv.1 c.make-answer.ensures.made)

pub returns-then-free-retirements : goal.returns-then-free-retirements
returns-then-free-retirements g c =
    let short : room c.args.log.now < retirements (moves_in c.args.moves.now) = omega (arith, c.free.ensures, c.retirements.ensures) in
    let before = c.args.self.now in
    let refused = runs_refused (world_in before (g.U.Unit.table c.args.unit.now)) (stages_in before) (pipes_in before) (g.M.Readable.words c.args.memory.now) (moves_in c.args.moves.now) short refl in
    record { ran = refused; machine = same_machine refl refl; kept = refl }

pub returns : goal.returns
returns g c =
    let inv = c.loop-next.invariant in
    let enough : retirements (moves_in c.args.moves.now) ≤ room c.args.log.now = omega (arith, c.free.ensures, c.retirements.ensures) in
    record { ran = runs_over enough c.in-None.ensures.steps.0 inv.0; machine = inv.1; kept = inv.2 }
