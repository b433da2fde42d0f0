use Rattle.std.proofs.Common.{◌≡◌}
use Rattle.draining.specs.Measure.{μ}
use Rattle.pipeline.specs.Views.{pipes_in, stages_in, world_in, SameMachine}
use Rattle.pipeline.proofs.Draws.{Drawing}
use Rattle.pipeline.proofs.pipelines.Pipeline.drain.Given as goal

abbrev pub invariant-loop-retirement : goal.invariant-loop-retirement
invariant-loop-retirement g l =
    Drawing (world_in l.fn.self (g.U.Unit.table l.unit)) (stages_in l.fn.self)
    (pipes_in l.fn.self) (g.M.Readable.words l.fn.memory) l.fn.log l.moves
    (pipes_in l.self) (g.M.Readable.words l.memory) l.log
    × SameMachine l.fn.self l.self
    × (g.M.Memory.kept l.memory ≡ g.M.Memory.kept l.fn.memory)

abbrev pub decreases-loop-retirement : goal.decreases-loop-retirement
decreases-loop-retirement g l = μ (stages_in l.fn.self) (pipes_in l.self)
