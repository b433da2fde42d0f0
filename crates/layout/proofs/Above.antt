-- Some stage from s on is able exactly where the last able stage is not below s.
use Rattle.std.proofs.Common.{◌≡◌, ℕ, zero, suc, ◌<◌, ◌≤◌, Bool, true, false, ◌&&◌, ◌||◌, leb, List, length, Some, None, Option, sym, refl, ap, ◌∙◌, subst, ⊎_elim, arith}
use Rattle.std.proofs.lemmas.Bool.{cases_eq, or_from, and_left, and_right, lt-leb}
use Rattle.std.proofs.lemmas.Bool.Decides.{nat_tests}
use Rattle.layout.specs.Able.{able, LastAble, able_from}

module _ (sets : List ℕ) (s operation : ℕ) where
  none_from : (n : ℕ) → ((t : ℕ) → t < n → able sets t operation ≡ false) → able_from n sets s operation ≡ false
  none_from zero h = refl
  none_from (suc n) h = or_from _ _ (and_right (leb s n) (able sets n operation) (h n (omega arith))) (none_from n (λ t l. h t (omega arith)))

  past_all : (n : ℕ) → n ≤ s → able_from n sets s operation ≡ false
  past_all zero h = refl
  past_all (suc n) h = or_from _ _ (and_left (leb s n) (able sets n operation) (lt-leb s n (omega arith))) (past_all n (omega arith))

  here : (n : ℕ) → able sets n operation ≡ true → able_from (suc n) sets s operation ≡ leb s n
  here n h = grind (arith, nat_tests, past_all)

  below : (n k : ℕ) → k < n → able sets k operation ≡ true → ((t : ℕ) → k < t → t < n → able sets t operation ≡ false) → able_from n sets s operation ≡ leb s k
  below zero k l h m = absurd (omega arith)
  below (suc n) k l h m =
      ⊎_elim
      (λ e. here n (ap (λ (j : ℕ). able sets j operation) (sym e) ∙ h) ∙ ap (leb s) (sym e))
      (λ ne. let p : able sets n operation ≡ false = m n (omega arith) (omega arith) in
      ap (λ (b : Bool). (leb s n && b) || able_from n sets s operation) p ∙ (let q : able_from n sets s operation ≡ leb s k = below n k (omega arith) h (λ t a b. m t a (omega arith)) in grind (arith, nat_tests)))
      (cases_eq k n)

-- as the search for the last able stage answers it
module _ (sets : List ℕ) (s operation : ℕ) (o : Option ℕ) where
  pub last_from : (k : ℕ) → o ≡ Some k → LastAble sets operation o → leb s k ≡ able_from (length sets) sets s operation
  last_from k e h =
      let P : Option ℕ → Type 0 = λ x. LastAble sets operation x in
      let l = subst P e h in
      sym (below sets s operation (length sets) k l.0 l.1 l.2)

  pub nowhere_from : o ≡ None → LastAble sets operation o → false ≡ able_from (length sets) sets s operation
  nowhere_from e h =
      let P : Option ℕ → Type 0 = λ x. LastAble sets operation x in
      sym (none_from sets s operation (length sets) (subst P e h))
