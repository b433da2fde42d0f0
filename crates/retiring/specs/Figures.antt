-- How the end of a core's drains is printed: how many instructions retired, whether it halted, the
-- most moves of one drain, and the bound, a blank between.
use Rattle.std.specs.Prelude.{ℕ, List, ◌∷◌, ◌++◌, decimal, if◌then◌else◌}
use Rattle.retiring.specs.declared.answers.CoreDrained.{CoreDrained}

-- 32 is the blank
abbrev most_text : CoreDrained → List ℕ
most_text core = decimal core.most ++ (32 ∷ decimal core.bound)

abbrev pub core_text : CoreDrained → List ℕ
core_text core = decimal core.drained ++ (32 ∷ (decimal (if core.halted then 1 else 0) ++ (32 ∷ most_text core)))
