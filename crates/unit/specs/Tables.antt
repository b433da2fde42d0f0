-- The table of a unit that looks words up.
use Rattle.std.specs.Prelude.{ℕ, List, length, Ok, Result, ◌==◌, nat_lt, slice_index, if◌then◌else◌}
use Rattle.unit.specs.declared.outcome.Fault.{Fault}
use Rattle.unit.specs.declared.table.WordTable.{WordTable}
use Rattle.unit.specs.Faults.{faulty}

-- the word at an address, or fault 2 outside
abbrev pub looked_up : List ℕ → ℕ → Result ℕ Fault
looked_up words a = if nat_lt a (length words) then Ok (slice_index words a) else faulty 2

-- operation 0 looks up; any other operation: fault 15
abbrev pub table_of : List ℕ → ℕ → ℕ → Result ℕ Fault
table_of words operation a = if operation == 0 then looked_up words a else faulty 15

-- where a unit looks its words up
abbrev pub readable_in : {R : Type 0} → WordTable R → R
readable_in unit = unit.words
