-- A log's entries, its room for more, and what records leave of it.
use Rattle.std.specs.Prelude.{◌≡◌, ℕ, ◌+◌, ◌-◌, if◌then◌else◌, List, [], ◌∷◌, length, nat_lt}
use Rattle.std.specs.Borrow.{MutBor}
use Rattle.bounded_log.specs.declared.places.Log.{Log}
use Rattle.bounded_log.specs.Entries.{entries, logged}

module _ {T : Type 0} (log : Log T) where
  -- the places with the loan that they came by
  abbrev pub loan_in : MutBor (List T)
  loan_in = log.places

  -- the places, taken and free
  abbrev pub places_in : List T
  places_in = log.places.now

  -- how many of the places are taken
  abbrev pub count_in : ℕ
  count_in = log.count

  -- which loan the places came by
  abbrev pub root_in : ℕ
  root_in = log.places.ghost_name

  abbrev pub entries_in : List T
  entries_in = entries places_in count_in

  -- how many places are free
  abbrev pub room : ℕ
  room = length places_in - count_in

  -- the records that adding logs: this one where a place is free, else none
  abbrev pub added_if : T → List T
  added_if x = if nat_lt count_in (length places_in) then x ∷ [] else []

-- the log after these records: they stand behind the old entries, and every other place and the
-- loan are as they were
pub record Logs {T : Type 0} (old new : Log T) (records : List T) : Type 0 where
  pub places : places_in new ≡ logged (places_in old) (count_in old) records
  pub count : count_in new ≡ count_in old + length records
  pub root : root_in new ≡ root_in old
