-- Two numbers below 16 that are equal make the same register, whatever shows that they are below.
use Rattle.std.proofs.Common.{◌≡◌, ℕ, ◌<◌, ap, subst}
use native.Mathlib.Bridge.{le_prop}
use Rattle.instruction.specs.declared.numbers.Register.{Register}
use Rattle.instruction.specs.declared.numbers.UnitOp.{UnitOp}

module _ {A : Type 0} (make : (n : ℕ) → n < 16 → A) where
  same_made : (m : ℕ) (a : m < 16) (n : ℕ) → m ≡ n → (b : n < 16) → make m a ≡ make n b
  same_made m a n e = let P : ℕ → Type 0 = λ k. (b : k < 16) → make m a ≡ make k b in subst P e (λ b. ap (make m) (le_prop a b))

pub same_register : (r s : Register) → r.number ≡ s.number → r ≡ s
same_register r s e = same_made (λ n h. record { number = n; below = h }) r.number r.below s.number e s.below

pub same_operation : (r s : UnitOp) → r.number ≡ s.number → r ≡ s
same_operation r s e = same_made (λ n h. record { number = n; below = h }) r.number r.below s.number e s.below
