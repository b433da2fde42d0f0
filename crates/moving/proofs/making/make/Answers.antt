use Rattle.std.proofs.Common.{rules, ◌≡◌, false}
use Rattle.layout.specs.Meaning.{sets_in}
use Rattle.stepper.specs.View.{world_of}
use Rattle.moving.proofs.Refused.{turned_away}
use Rattle.moving.proofs.making.make.Goals as goal

pub returns-in_err-ask-clause-made : goal.returns-in_err-ask-clause-made
returns-in_err-ask-clause-made g c =
    let W = world_of (g.U.Unit.table c.args.unit.now) c.args.image.now in
    let runs : c.args.pipes.now.halted ≡ false = search rules in
    turned_away W (sets_in c.args.layout.now) c.args.pipes.now (g.M.Readable.words c.args.memory.now) c.args.next _ _ runs c.in_err-ask.ensures c.from_residual.ensures.1
