-- The numbers of a move, in the order of its line.
use Rattle.std.specs.Prelude.{ℕ, List, [], ◌∷◌}
use Rattle.moves.specs.declared.kinds.Move.{Move}
use Rattle.moves.specs.Decoding.{number_of}

abbrev pub move_numbers : Move → List ℕ
move_numbers m = number_of m.kind ∷ (m.place ∷ [])
