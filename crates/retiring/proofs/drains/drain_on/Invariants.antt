use Rattle.std.proofs.Common.{◌≡◌, length}
use Rattle.bounded_log.specs.Room.{places_in, room}
use Rattle.pipeline.specs.Views.{pipes_in, stages_in, world_in, SameMachine}
use Rattle.retiring.proofs.Going.{Going}
use Rattle.retiring.proofs.drains.drain_on.Given as goal

-- the drains so far, on the machine that was handed in, with room for the moves of one more
abbrev pub invariant-loop : goal.invariant-loop
invariant-loop g l =
    Going (world_in l.fn.pipeline (g.U.Unit.table l.fn.unit)) (stages_in l.fn.pipeline) (pipes_in l.fn.pipeline) (g.M.Readable.words l.fn.memory) l.fn.log
    (pipes_in l.pipeline) (g.M.Readable.words l.memory) l.log l.most l.counter
    × SameMachine l.fn.pipeline l.pipeline
    × (g.M.Memory.kept l.memory ≡ g.M.Memory.kept l.fn.memory)
    × (length (places_in l.moves) ≡ 584)
    × (l.room ≡ room l.fn.log)
