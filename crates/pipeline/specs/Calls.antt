-- What a move and a run of a pipeline answer and leave, over a unit's table and a memory's words.
use Rattle.std.specs.Prelude.{ℕ, List}
use Rattle.moves.specs.declared.kinds.Move.{Move}
use Rattle.effect.specs.Effects.{Table}
use Rattle.pipes.specs.Moving.{Moved, moved}
use Rattle.pipes.specs.Running.{Run, run_of}
use Rattle.pipeline.specs.declared.pipelines.Pipeline.{Pipeline}
use Rattle.pipeline.specs.Views.{pipes_in, stages_in, world_in}

-- a move of this kind and place, accepted or turned away: its answer, and the pipes and the words
-- that it leaves
abbrev pub move_made : Table → Pipeline → List ℕ → ℕ → ℕ → Moved
move_made table p words kind place = moved (world_in p table) (stages_in p) (pipes_in p) words kind place

-- a list of moves, with so many free places in the log
abbrev pub list_run : Table → Pipeline → List ℕ → List Move → ℕ → Run
list_run table p words moves room = run_of (world_in p table) (stages_in p) (pipes_in p) words moves room
