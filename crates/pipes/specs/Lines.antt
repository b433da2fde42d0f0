-- The numbers of a drain, in the order of its line: those of the record, then how many moves it took.
use Rattle.std.specs.Prelude.{ℕ, List, [], ◌∷◌, ◌++◌}
use Rattle.effect.specs.Retirements.{numbers_of}
use Rattle.pipes.specs.declared.answers.Drain.{Drain}

abbrev pub drain_numbers : Drain → List ℕ
drain_numbers d = numbers_of d.retirement ++ (d.moves ∷ [])
