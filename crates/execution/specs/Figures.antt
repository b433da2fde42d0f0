-- How the end of an execution is printed: its steps and whether it halted, a blank between.
use Rattle.std.specs.Prelude.{ℕ, List, ◌∷◌, ◌++◌, decimal, if◌then◌else◌}
use Rattle.execution.specs.declared.answers.Execution.{Execution}

-- 32 is the blank
abbrev pub execution_text : Execution → List ℕ
execution_text execution = decimal execution.steps ++ (32 ∷ decimal (if execution.halted then 1 else 0))
