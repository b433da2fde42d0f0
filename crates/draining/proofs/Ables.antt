-- Which stages from one on can execute an operation.
use Rattle.std.proofs.Common.{◌≡◌, ℕ, zero, suc, ◌+◌, ◌≤◌, Bool, true, false, ◌&&◌, ◌||◌, leb, List, refl, ⊎_elim, arith}
use Rattle.std.proofs.lemmas.Bool.{cases_eq, lt-leb, and_left, or_from}
use Rattle.std.proofs.lemmas.Bool.Decides.{nat_tests}
use Rattle.layout.specs.Able.{able, able_from}

module _ (sets : List ℕ) (s operation : ℕ) where
  pub none_past : (n : ℕ) → n ≤ s → able_from n sets s operation ≡ false
  none_past zero l = refl
  none_past (suc n) l = or_from _ _ (and_left (leb s n) (able sets n operation) (lt-leb s n (omega arith))) (none_past n (omega arith))

  -- what some stage from s on can execute, and none above s, s can
  pub able_last : (n : ℕ) → able_from n sets s operation ≡ true → able_from n sets (s + 1) operation ≡ false → able sets s operation ≡ true
  able_last zero a b = absurd (let z : ◌≡◌ {A = ℕ} 0 1 = cc in omega arith)
  able_last (suc n) a b =
      let f = able_last n in
      ⊎_elim
      (λ z. let g = none_past n (omega arith) in rw z (just (leb s n) (able sets n operation) (able_from n sets s operation) g a))
      (λ ne. f (grind (arith, nat_tests)) (grind (arith, nat_tests)))
      (cases_eq s n)
    where
      just : (a b c : Bool) → c ≡ false → ((a && b) || c) ≡ true → b ≡ true
      just a b c e h = grind arith
