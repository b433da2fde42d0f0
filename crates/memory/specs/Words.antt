-- What reading and writing an address does to a list of words.
use Rattle.std.specs.Prelude.{ℕ, List, length, Ok, Err, Result, nat_lt, slice_index, slice_set, if◌then◌else◌}
use Rattle.memory.specs.declared.access.AccessFault.{AccessFault}
use Rattle.memory.specs.declared.access.AccessFault.TheVariants.{Outside}

-- the number of a refusal
abbrev pub access_number : AccessFault → ℕ
access_number Outside = 44

-- the word at an address below the size, else a refusal
abbrev pub read_of : List ℕ → ℕ → Result ℕ AccessFault
read_of ws a = if nat_lt a (length ws) then Ok (slice_index ws a) else Err Outside

-- what a write answers
abbrev pub write_of : List ℕ → ℕ → Result (Unit {0}) AccessFault
write_of ws a = if nat_lt a (length ws) then Ok tt else Err Outside

-- the words after a write: that word changed, or, outside, none
abbrev pub written : List ℕ → ℕ → ℕ → List ℕ
written ws a w = if nat_lt a (length ws) then slice_set ws a w else ws
