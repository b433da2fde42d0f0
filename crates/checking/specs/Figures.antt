-- How the figures of a job are printed: records, stages and moves, a blank between.
use Rattle.std.specs.Prelude.{ℕ, List, ◌∷◌, ◌++◌, decimal}
use Rattle.checking.specs.declared.answers.JobFigures.{JobFigures}

-- 32 is the blank
abbrev pub figures_text : JobFigures → List ℕ
figures_text figures = decimal figures.records ++ (32 ∷ (decimal figures.stages ++ (32 ∷ decimal figures.moves)))
