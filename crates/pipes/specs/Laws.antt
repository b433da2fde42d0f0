-- Laws of a move, in the subject's words.
use Rattle.std.specs.Prelude.{◌≡◌, ℕ, ◌+◌, ◌-◌, List, Some, None, Option, ◌≢◌}
use Rattle.moves.specs.declared.kinds.MoveKind.{MoveKind}
use Rattle.moves.specs.declared.kinds.MoveKind.TheVariants.{Fetch, Raise, Lower, Execute, Insert, Read, Retire, Drop}
use Rattle.pipes.specs.Questions.{top}

-- the stages of a move: no other stage is touched
abbrev pub Apart : List ℕ → MoveKind → ℕ → ℕ → Type 0
Apart sets Fetch s k = k ≡ 0 → ⊥
Apart sets Raise s k = (k ≢ s) × (k ≢ s + 1)
Apart sets Lower s k = (k ≢ s) × (k ≢ s - 1)
Apart sets Execute s k = k ≡ s → ⊥
Apart sets Insert s k = k ≡ s → ⊥
Apart sets Read s k = k ≡ top sets → ⊥
Apart sets Retire s k = k ≡ top sets → ⊥
Apart sets Drop s k = k ≡ 0 → ⊥

abbrev pub ApartBy : List ℕ → Option MoveKind → ℕ → ℕ → Type 0
ApartBy sets None s k = Unit {0}
ApartBy sets (Some kind) s k = Apart sets kind s k
