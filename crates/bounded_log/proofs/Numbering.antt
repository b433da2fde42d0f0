-- The text of numbered records, with one record more.
use Rattle.std.proofs.Common.{◌≡◌, ℕ, ◌+◌, ◌<◌, List, [], ◌∷◌, ◌++◌, length, take, get_or, decimal, ap, sym, ◌∙◌, arith, append_assoc, length-take}
use Rattle.std.proofs.lemmas.List.{take_more}
use Rattle.bounded_log.specs.Lines.{line_of, numbered}

module _ {T : Type 0} (numbers : T → List ℕ) where
  abbrev behind : ℕ → T → List ℕ
  behind n x = decimal n ++ (32 ∷ (line_of (numbers x) ++ (10 ∷ [])))

  last_numbered : (n m : ℕ) (xs : List T) (x : T) → m ≡ n + length xs → numbered numbers n (xs ++ (x ∷ [])) ≡ numbered numbers n xs ++ behind m x
  last_numbered n m [] x e = ap (λ (k : ℕ). behind k x) (omega (arith, e))
  last_numbered n m (y ∷ xs) x e =
      ap (λ (rest : List ℕ). decimal n ++ (32 ∷ (line_of (numbers y) ++ (10 ∷ rest)))) (last_numbered (n + 1) m xs x (omega (arith, e))) ∙ simp append_assoc

  pub numbered_more : (xs : List T) (i : ℕ) (x : T) → i < length xs → x ≡ get_or xs i x →
      numbered numbers 1 (take (i + 1) xs) ≡ numbered numbers 1 (take i xs) ++ behind (i + 1) x
  numbered_more xs i x l e =
      ap (numbered numbers 1) (take_more xs i x l ∙ ap (λ (y : T). take i xs ++ (y ∷ [])) (sym e))
      ∙ last_numbered 1 (i + 1) (take i xs) x (omega (arith, length-take i xs))
