-- Words that are lent, and a memory that is lent.
use Rattle.std.specs.Prelude.{ℕ, List, [], ◌∷◌, take, drop}
use Rattle.memory.specs.declared.lent.LentWords.{LentWords}
use Rattle.memory.specs.declared.loan.Loan.{Loan}
use Rattle.memory.specs.Kept.{Kept}

module _ (lent : LentWords) where
  -- every word that was lent, those without an address too
  abbrev pub lent_in : List ℕ
  lent_in = lent.cells.now

  -- which loan the words came by
  abbrev pub lent_root : ℕ
  lent_root = lent.cells.ghost_name

  -- the words that have an address
  abbrev pub addressed_in : List ℕ
  addressed_in = take 65536 lent_in

  -- what no write changes: the loan, and the words without an address
  abbrev pub kept_of_lent : Kept
  kept_of_lent = record { roots = lent_root ∷ []; beyond = drop 65536 lent_in ∷ [] }

module _ {M : Type 0} (loan : Loan M) where
  -- the memory that was lent
  abbrev pub memory_in : M
  memory_in = loan.below.now

  -- which loan the memory came by
  abbrev pub memory_root : ℕ
  memory_root = loan.below.ghost_name

  -- what no write changes: the loan too
  abbrev pub kept_of_loan : (M → Kept) → Kept
  kept_of_loan kept = record (kept memory_in) { roots = memory_root ∷ (kept memory_in).roots }
