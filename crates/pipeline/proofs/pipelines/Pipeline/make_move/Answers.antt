use Rattle.std.proofs.Common.{sym, refl, ap, ◌∙◌}
use Rattle.pipeline.specs.Views.{stages_in, world_in}
use Rattle.pipes.specs.declared.state.Pipes.{Pipes}
use Rattle.pipes.specs.Questions.{stage_at}
use Rattle.pipes.proofs.Stays.{refused_stays, others_stay}
use Rattle.pipes.specs.Moving.{Moved}
use Rattle.pipeline.proofs.Sounds.{move_sound}
use Rattle.pipeline.proofs.Turns.{same_machine}
use Rattle.pipeline.proofs.pipelines.Pipeline.make_move.Goals as goal

pub returns : goal.returns
returns g c =
    let before = c.args.self.now in
    let W = world_in before (g.U.Unit.table c.args.unit.now) in
    let sets = stages_in before in
    let words = g.M.Readable.words c.args.memory.now in
    let made = c.make_move.ensures in
    let pipes = ap (λ (x : Moved). x.pipes) made.made in
    record {
      made = made.made;
      machine = same_machine refl refl;
      refused = λ f e.
          let stays = refused_stays W sets before.pipes words c.args.kind c.args.place f (sym (ap (λ (x : Moved). x.answer) made.made) ∙ e) in
          (pipes ∙ stays.0, ap (λ (x : Moved). x.words) made.made ∙ stays.1);
      others = λ k apart. ap (λ (P : Pipes). stage_at P k) pipes ∙ others_stay W sets before.pipes words k c.args.kind c.args.place apart;
      kept = made.kept;
    }

pub invariant_of-self : goal.invariant_of-self
invariant_of-self g c =
    let before = c.args.self.now in
    record {
      fits = before.fits;
      sound = move_sound (g.U.Unit.table c.args.unit.now) before (g.M.Readable.words c.args.memory.now) c.args.kind c.args.place c.make_move.ensures.made;
    }
