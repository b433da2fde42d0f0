-- What is asked of a layout.
use Rattle.std.specs.Prelude.{◌≡◌, ℕ, ◌+◌, ◌<◌, ◌≤◌, false, List, length}
use Rattle.layout.specs.Able.{able}

-- loads and stores, operations 5 and 6, execute in the top stage only
abbrev pub MemoryAtTop : List ℕ → Type 0
MemoryAtTop sets = (s : ℕ) → s + 1 < length sets → (able sets s 5 ≡ false) × (able sets s 6 ≡ false)

pub record Laid (sets : List ℕ) : Type 0 where
  pub low : 2 ≤ length sets
  pub high : length sets ≤ 16
  pub memory : MemoryAtTop sets
