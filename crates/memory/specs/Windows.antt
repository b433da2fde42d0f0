-- A window: a part of the words below.
use Rattle.std.specs.Prelude.{ℕ, ◌+◌, ◌&&◌, List, [], ◌∷◌, ◌++◌, length, take, drop, Ok, Err, Result, nat_le, nat_lt, if◌then◌else◌}
use Rattle.memory.specs.declared.access.WindowFault.{WindowFault}
use Rattle.memory.specs.declared.access.WindowFault.TheVariants.{Misfit}
use Rattle.memory.specs.declared.window.Window.{Window}
use Rattle.memory.specs.Words.{written}
use Rattle.memory.specs.Kept.{Kept}

abbrev pub window_number : WindowFault → ℕ
window_number Misfit = 42

-- is there an address at least, and are all within the words below
abbrev pub check_of : List ℕ → ℕ → ℕ → Result (Unit {0}) WindowFault
check_of ws base size = if nat_le 1 size && nat_le (base + size) (length ws) then Ok tt else Err Misfit

-- the words of a window; none where it does not fit
abbrev pub window_of : List ℕ → ℕ → ℕ → List ℕ
window_of ws base size = if nat_le (base + size) (length ws) then take size (drop base ws) else []

-- the words below that no window write reaches
abbrev pub outside_of : List ℕ → ℕ → ℕ → List (List ℕ)
outside_of ws base size =
    if nat_le (base + size) (length ws) then take base ws ∷ (drop (base + size) ws ∷ []) else ws ∷ []

-- what no write through a window changes: its base and size, the words outside, and what lies
-- beyond the memory below
abbrev pub beyond_of : List ℕ → ℕ → ℕ → List (List ℕ) → List (List ℕ)
beyond_of ws base size beyond = (base ∷ (size ∷ [])) ∷ (outside_of ws base size ++ beyond)

-- what is kept through a window: the same references, and what lies beyond the window
abbrev pub kept_of : List ℕ → ℕ → ℕ → Kept → Kept
kept_of ws base size below = record { roots = below.roots; beyond = beyond_of ws base size below.beyond }

-- the words below after a write through a window: that word changed, or, outside the window, none
abbrev pub written_below : List ℕ → ℕ → ℕ → ℕ → ℕ → List ℕ
written_below ws base size a w =
    if nat_lt a (length (window_of ws base size)) then written ws (base + a) w else ws

-- a window of this base and size, whether or not it fits
abbrev pub window_over : {M : Type 0} → M → ℕ → ℕ → Window M
window_over below base size = record { below = below; base = base; size = size }

-- the memory that a window lies over
abbrev pub memory_below : {M : Type 0} → Window M → M
memory_below window = window.below

-- a window over a memory, by the words that the memory means
module _ {M : Type 0} (words : M → List ℕ) (window : Window M) where
  -- the words below, those in the window and those outside
  abbrev pub words_below : List ℕ
  words_below = words window.below

  -- the words below that are in the window
  abbrev pub seen_through : List ℕ
  seen_through = window_of words_below window.base window.size

  -- the words below after a write through the window
  abbrev pub written_through : ℕ → ℕ → List ℕ
  written_through a w = written_below words_below window.base window.size a w

  -- what no write through the window changes, by what none changes below
  abbrev pub kept_through : (M → Kept) → Kept
  kept_through kept = kept_of words_below window.base window.size (kept window.below)
