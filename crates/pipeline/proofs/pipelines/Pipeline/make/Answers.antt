use Rattle.moves.specs.Decoding.{number_of}
use Rattle.pipeline.proofs.Sounds.{move_sound}
use Rattle.pipeline.proofs.pipelines.Pipeline.make.Goals as goal

pub invariant_of-self : goal.invariant_of-self
invariant_of-self g c =
    let before = c.args.self.now in
    record {
      fits = before.fits;
      sound = move_sound (g.U.Unit.table c.args.unit.now) before (g.M.Readable.words c.args.memory.now) (number_of c.args.next.kind) c.args.next.place c.make.ensures.made;
    }
