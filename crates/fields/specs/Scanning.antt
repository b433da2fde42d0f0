-- Entries in a row, asked one by one, the lowest first.
use Rattle.std.specs.Prelude.{ℕ, suc, List, [], ◌∷◌, Some, None, Ok, Err, Option, Result}
use Rattle.std.specs.Option.{option_map}
use Rattle.fields.specs.declared.scanning.EntriesFault.{EntriesFault}
use Rattle.fields.specs.declared.scanning.EntriesFault.TheVariants.{Entry}

abbrev pub or_else : {F : Type 0} → Option F → Option F → Option F
or_else None later = later
or_else (Some fault) later = Some fault

-- the first fault of entries, of which the first has the index
abbrev pub first_in : {F : Type 0} → (ℕ → List ℕ → Option F) → ℕ → List (List ℕ) → Option F
first_in fault index [] = None
first_in fault index (entry ∷ entries) = or_else (fault index entry) (first_in fault (suc index) entries)

-- a fault with the number of its entry
abbrev pub numbered : {F : Type 0} → (ℕ → List ℕ → Option F) → ℕ → List ℕ → Option (EntriesFault F)
numbered fault index entry = option_map (Entry index) (fault index entry)

-- a fault as an answer: nothing is wrong, or this is
abbrev pub verdict : {F : Type 0} → Option F → Result (Unit {0}) F
verdict None = Ok tt
verdict (Some fault) = Err fault
