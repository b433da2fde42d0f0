use Rattle.std.proofs.Common.{◌≡◌}
use Rattle.moves.specs.Meaning.{moves_in, left}
use Rattle.pipes.proofs.Runs.{Underway}
use Rattle.pipeline.specs.Views.{pipes_in, stages_in, world_in, SameMachine}
use Rattle.pipeline.proofs.pipelines.Pipeline.run.Given as goal

abbrev pub invariant-loop-next : goal.invariant-loop-next
invariant-loop-next g l =
    Underway (world_in l.fn.self (g.U.Unit.table l.unit)) (stages_in l.fn.self)
    (pipes_in l.fn.self) (g.M.Readable.words l.fn.memory) (moves_in l.moves) l.fn.log (left l.next-iterator)
    (pipes_in l.self) (g.M.Readable.words l.memory) l.figures l.log
    × SameMachine l.fn.self l.self
    × (g.M.Memory.kept l.memory ≡ g.M.Memory.kept l.fn.memory)
