-- What a move list means: its moves, in their order.
use Rattle.std.specs.Prelude.{ℕ, List}
use Rattle.moves.specs.declared.kinds.Move.{Move}
use Rattle.moves.specs.declared.lists.MoveList.{MoveList}
use Rattle.fields.specs.declared.rows.Elements.{Elements}
use Rattle.fields.specs.Rows.{left_of}
use Rattle.moves.specs.Reading.{Contents, list_of}

abbrev pub moves_in : MoveList → List Move
moves_in l = list_of l.entries.now

-- a move list and what follows it, as reading tells them
abbrev pub told : MoveList → List ℕ → Contents
told l rest = record { moves = moves_in l; rest = rest }

-- the moves that an iterator has still to give
abbrev pub left : Elements MoveList → List Move
left = left_of moves_in
