-- How the end of a run is printed: its live retirements, the moves accepted and turned away, and
-- whether it halted, a blank between.
use Rattle.std.specs.Prelude.{ℕ, List, ◌∷◌, ◌++◌, decimal, if◌then◌else◌}
use Rattle.pipes.specs.declared.answers.RunFigures.{RunFigures}
use Rattle.running.specs.declared.answers.JobRun.{JobRun}

-- 32 is the blank
abbrev pub moves_text : RunFigures → List ℕ
moves_text figures = decimal figures.live ++ (32 ∷ (decimal figures.accepted ++ (32 ∷ decimal figures.turned_away)))

abbrev pub job_run_text : JobRun → List ℕ
job_run_text answer = moves_text answer.run ++ (32 ∷ decimal (if answer.halted then 1 else 0))
