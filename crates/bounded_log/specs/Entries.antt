-- The log as the list of its entries, in the places that it was lent.
use Rattle.std.specs.Prelude.{ℕ, if◌then◌else◌, List, [], ◌∷◌, ◌++◌, length, take, drop, Ok, Err, Result, nat_lt}
use Rattle.std.specs.Option.{ok_or}
use Rattle.std.specs.List.{slice_get}
use Rattle.bounded_log.specs.declared.faults.LogFault.{LogFault}
use Rattle.bounded_log.specs.declared.faults.LogFault.TheVariants.{Full, Missing}

abbrev pub log_number : LogFault → ℕ
log_number Full = 40
log_number Missing = 41

module _ {T : Type 0} (places : List T) (count : ℕ) where
  -- the entries are the first places
  abbrev pub entries : List T
  entries = take count places

  -- what adding answers
  abbrev pub add_of : Result (Unit {0}) LogFault
  add_of = if nat_lt count (length places) then Ok tt else Err Full

  -- the entries after adding: one more at the end, or, where the log is full, the same
  abbrev pub grown : T → List T
  grown x = if nat_lt count (length places) then entries ++ x ∷ [] else entries

-- the entry of a number, from 0
abbrev pub entry_of : {T : Type 0} → List T → ℕ → Result T LogFault
entry_of xs index = ok_or (slice_get xs index) Missing

-- places that are overwritten by records, from the count on
abbrev pub logged : {T : Type 0} → List T → ℕ → List T → List T
logged places count made = take count places ++ (made ++ drop (length made) (drop count places))

-- the entries from one count to another
abbrev pub since : {T : Type 0} → ℕ → ℕ → List T → List T
since before after places = drop before (take after places)
