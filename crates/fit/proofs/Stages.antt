-- A last stage that is able is found exactly where some stage is able.
use Rattle.std.proofs.Common.{◌≡◌, ℕ, zero, suc, ◌<◌, ◌≤◌, true, false, List, length, is_some, Some, None, Option, sym, refl, ap, ◌∙◌, ⊎_elim, arith}
use Rattle.std.proofs.lemmas.Bool.{cases_eq, or_left, or_right, or_from}
use Rattle.std.proofs.lemmas.Bool.Decides.{nat_tests}
use Rattle.layout.specs.Able.{able, LastAble}
use Rattle.instruction.specs.declared.instructions.Instruction.{Instruction}
use Rattle.instruction.specs.Operations.{operation_of}
use Rattle.fit.specs.Fitting.{some_below, placed}

module _ (sets : List ℕ) (operation : ℕ) where
  none_below : (n : ℕ) → ((s : ℕ) → s < n → able sets s operation ≡ false) → some_below n sets operation ≡ false
  none_below zero h = refl
  none_below (suc n) h = or_from (able sets n operation) (some_below n sets operation) (h n (omega arith)) (none_below n (λ s l. h s (omega arith)))

  one_below : (n k : ℕ) → k < n → able sets k operation ≡ true → some_below n sets operation ≡ true
  one_below zero k l h = absurd (omega arith)
  one_below (suc n) k l h =
      ⊎_elim
      (λ e. or_left (able sets n operation) (some_below n sets operation) (ap (λ (j : ℕ). able sets j operation) (sym e) ∙ h))
      (λ ne. or_right (able sets n operation) (some_below n sets operation) (one_below n k (omega arith) h))
      (cases_eq k n)

  pub found_some : (o : Option ℕ) → LastAble sets operation o → is_some o ≡ some_below (length sets) sets operation
  found_some None h = sym (none_below (length sets) h)
  found_some (Some k) h = sym (one_below (length sets) k h.0 h.1)

-- an operation of 2 and more is placed exactly where a stage is found
pub placed_by : (sets : List ℕ) (i : Instruction) (o : Option ℕ) → 2 ≤ operation_of i → LastAble sets (operation_of i) o → placed sets i ≡ is_some o
placed_by sets i o l h = grind (arith, nat_tests, found_some sets (operation_of i) o h)
