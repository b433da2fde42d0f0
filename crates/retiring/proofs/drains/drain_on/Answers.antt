use Rattle.std.proofs.Common.{ℕ, ◌+◌, ◌<◌, List, length, MutBor, sym, refl, ap, ◌∙◌, subst, arith}
use Rattle.moves.specs.declared.kinds.Move.{Move}
use Rattle.bounded_log.specs.Room.{room}
use Rattle.bounded_log.proofs.Logged.{logs_one, logs_room}
use Rattle.pipes.specs.Draining.{moves_between}
use Rattle.agreement.proofs.Layouts.{read_laid}
use Rattle.pipeline.specs.Views.{pipes_in, stages_in, world_in}
use Rattle.retiring.proofs.Going.{Going, going_none, going_more, on_same, drained_ok, bound_most, drained_wide}
use Rattle.retiring.proofs.drains.drain_on.Goals as goal

pub loop-init : goal.loop-init
loop-init g c = (going_none, record { image = refl; layout = refl }, refl, ap length c.new-moves.ensures.places ∙ refl, c.free-room.ensures)

pub loop-preserved : goal.loop-preserved
loop-preserved g c =
    let before = c.args.pipeline.now in
    let table = g.U.Unit.table c.args.unit.now in
    let inv = c.loop.invariant in
    let d = c.in-Ok.drain in
    let moves = moves_between c.clear.new.self c.drain.new.log in
    let there = on_same table inv.1 c.in-Ok.ensures.drained in
    let ok = drained_ok (world_in before table) (stages_in before) (pipes_in c.loop.pipeline) (g.M.Readable.words c.loop.memory) moves (pipes_in c.drain.new.self) (g.M.Readable.words c.drain.new.memory) (room c.clear.new.self) d there.drained in
    let laid = read_laid before.layout in
    let most = bound_most (length (stages_in before)) laid.high in
    let free : 0 < room c.loop.log = omega (arith, inv.0.count_is, inv.4, c.loop-test.true, logs_room inv.0.logs (omega (arith, inv.0.count_is, inv.4, c.loop-test.true))) in (
      subst (λ (m : ℕ). Going (world_in before table) (stages_in before) (pipes_in before) (g.M.Readable.words c.args.memory.now) c.args.log.now (pipes_in c.drain.new.self) (g.M.Readable.words c.drain.new.memory) c.add.new.self m (c.loop.counter + 1)) (sym c.max-most.ensures) (going_more inv.0 d moves _ _ ok (logs_one d free c.add.ensures.logs)),
      record { image = c.in-Ok.ensures.machine.image ∙ inv.1.image; layout = c.in-Ok.ensures.machine.layout ∙ inv.1.layout },
      c.in-Ok.ensures.kept ∙ inv.2,
      drained_wide c.clear.new.self c.drain.new.log c.clear.ensures.count (ap (λ (p : MutBor (List Move)). length p.now) c.clear.ensures.places ∙ inv.3) there.logs (omega (arith, ok.2.few, most)),
      inv.4,
    )
