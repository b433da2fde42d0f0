-- Numbers of several bytes, the highest byte first, in a list of bytes; numbers as sets.
use Rattle.std.specs.Prelude.{ℕ, ◌+◌, ◌*◌, ◌/◌, ◌%◌, ◌^◌, Bool, List, ◌==◌, slice_index}

-- the byte at a place
abbrev pub byte_at : List ℕ → ℕ → ℕ
byte_at bytes k = slice_index bytes k

-- the number of two bytes from a place on
abbrev pub two_at : List ℕ → ℕ → ℕ
two_at bytes k = byte_at bytes k * 256 + byte_at bytes (k + 1)

-- the number of four bytes from a place on
abbrev pub four_at : List ℕ → ℕ → ℕ
four_at bytes k = byte_at bytes k * 16777216 + byte_at bytes (k + 1) * 65536 + byte_at bytes (k + 2) * 256 + byte_at bytes (k + 3)

-- does a set of operations hold one: is that bit of the number 1
abbrev pub holds : ℕ → ℕ → Bool
holds set operation = (set / 2 ^ operation % 2) == 1
