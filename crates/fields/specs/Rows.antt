-- The elements of a row that an iterator has still to give.
use Rattle.std.specs.Prelude.{List, drop}
use Rattle.fields.specs.declared.rows.Elements.{Elements}

abbrev pub left_of : {R A : Type 0} → (R → List A) → Elements R → List A
left_of elements iterator = drop iterator.index (elements iterator.row)
