use Rattle.std.proofs.Common.{◌≡◌}
use Rattle.stepper.specs.View.{view, world_of}
use Rattle.stepper.proofs.Executions.{Reached}
use Rattle.stepper.proofs.state.Stepper.run.Given as goal

abbrev pub invariant-loop-made : goal.invariant-loop-made
invariant-loop-made g l = record {
  reached :
      Reached (world_of (g.U.Unit.table l.fn.unit) l.fn.self.image) l.made
      (view l.fn.self (g.M.Readable.words l.fn.memory)) (view l.self (g.M.Readable.words l.memory))
      l.made l.fn.log l.log;
  image : l.self.image ≡ l.fn.self.image;
  kept : g.M.Memory.kept l.memory ≡ g.M.Memory.kept l.fn.memory;
}
