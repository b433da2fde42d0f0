-- An element of a list at a place, and the elements from that place on.
use Rattle.std.proofs.Common.{◌≡◌, ℕ, zero, suc, ◌+◌, List, [], ◌∷◌, drop, Some, None, refl, ap, ◌∙◌, arith}
use Rattle.std.specs.List.{slice_get}

module _ {A : Type 0} where
  pub none_left : (xs : List A) (p : ℕ) → slice_get xs p ≡ None → drop p xs ≡ []
  none_left [] zero e = refl
  none_left [] (suc p) e = refl
  none_left (x ∷ xs) zero e = absurd (let z : ◌≡◌ {A = ℕ} 0 1 = cc in omega arith)
  none_left (x ∷ xs) (suc p) e = none_left xs p e

  pub one_left : (xs : List A) (p : ℕ) (x : A) → slice_get xs p ≡ Some x → drop p xs ≡ x ∷ drop (p + 1) xs
  one_left [] p x e = absurd (let z : ◌≡◌ {A = ℕ} 0 1 = cc in omega arith)
  one_left (y ∷ xs) zero x e = cc
  one_left (y ∷ xs) (suc p) x e = let j : suc (p + 1) ≡ suc p + 1 = omega arith in one_left xs p x e ∙ ap (λ (n : ℕ). x ∷ drop n (y ∷ xs)) j
