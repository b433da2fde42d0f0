-- The line of a record: its numbers in decimal, a blank between.
use Rattle.std.specs.Prelude.{◌≡◌, ℕ, ◌+◌, List, [], ◌∷◌, ◌++◌, Some, None, Ok, Err, codes, decimal, Option, Result}
use Rattle.std.specs.List.{slice_get}
use Rattle.bounded_log.specs.declared.faults.LogFault.TheVariants.{Full, Missing}
use Rattle.bounded_log.specs.declared.faults.WriteFault.{WriteFault}
use Rattle.bounded_log.specs.declared.faults.WriteFault.TheVariants.{Log, Memory}

abbrev pub line_of : List ℕ → List ℕ
line_of [] = []
line_of (n ∷ []) = decimal n
line_of (n ∷ (m ∷ ns)) = decimal n ++ (32 ∷ line_of (m ∷ ns))

-- records a line each, behind their numbers, which go up by one: the number, a blank, the
-- record's line
abbrev pub numbered : {T : Type 0} → (T → List ℕ) → ℕ → List T → List ℕ
numbered numbers n [] = []
numbered numbers n (x ∷ xs) = decimal n ++ (32 ∷ (line_of (numbers x) ++ (10 ∷ numbered numbers (n + 1) xs)))

module _ {T : Type 0} (numbers : T → List ℕ) (before after : List ℕ) where
  abbrev WritesOne : Option T → Result (Unit {0}) WriteFault → Type 0
  WritesOne (Some x) (Ok u) = after ≡ before ++ line_of (numbers x)
  WritesOne (Some x) (Err (Log f)) = ⊥
  WritesOne (Some x) (Err (Memory e)) = after ≡ before
  WritesOne None (Ok u) = ⊥
  WritesOne None (Err (Log f)) = (f ≡ Missing) × (after ≡ before)
  WritesOne None (Err (Memory e)) = ⊥

-- writing an entry appends exactly its line; a refusal leaves the text as it was
abbrev pub Writes : {T : Type 0} → (T → List ℕ) → List T → ℕ → Result (Unit {0}) WriteFault → List ℕ → List ℕ → Type 0
Writes numbers xs index r before after = WritesOne numbers before after (slice_get xs index) r

-- what is printed of a fault
abbrev pub fault_text : WriteFault → List ℕ
fault_text (Log Full) = codes "no free place"
fault_text (Log Missing) = codes "no such entry"
fault_text (Memory e) = codes "memory allocation failed"
