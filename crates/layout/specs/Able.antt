-- Which stages can execute an operation.
use Rattle.std.specs.Prelude.{◌≡◌, ℕ, zero, suc, ◌<◌, Bool, true, false, ◌&&◌, ◌||◌, List, length, Some, None, Option, nat_le, nat_lt, slice_index}
use Rattle.fields.specs.Numbers.{holds}

-- can the stage execute the operation, one of 0 to 31
abbrev pub able : List ℕ → ℕ → ℕ → Bool
able sets stage operation = nat_lt stage (length sets) && (nat_lt operation 32 && holds (slice_index sets stage) operation)

-- among the first stages, the last that can execute the operation, or that none can
abbrev pub LastBelow : ℕ → List ℕ → ℕ → Option ℕ → Type 0
LastBelow n sets operation None = (s : ℕ) → s < n → able sets s operation ≡ false
LastBelow n sets operation (Some k) = (k < n) × (able sets k operation ≡ true) × ((s : ℕ) → k < s → s < n → able sets s operation ≡ false)

-- the last stage that can execute an operation, or that no stage can
abbrev pub LastAble : List ℕ → ℕ → Option ℕ → Type 0
LastAble sets operation found = LastBelow (length sets) sets operation found

-- is one of the stages from s on, below the n-th, able
abbrev pub able_from : ℕ → List ℕ → ℕ → ℕ → Bool
able_from zero sets s operation = false
able_from (suc n) sets s operation = (nat_le s n && able sets n operation) || able_from n sets s operation
