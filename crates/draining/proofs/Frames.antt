-- From one replaced stage to the whole list.
use Rattle.std.proofs.Common.{◌≡◌, ℕ, zero, suc, ◌<◌, true, ◌||◌, List, [], ◌∷◌, length, get_or, set, sym, ap, ◌∙◌, subst, ⊎_elim, length-set, get_or-set_other, get_or-set_same}
use Rattle.std.proofs.lemmas.Bool.{cases_eq, or_left, or_right, or_cases}
use Rattle.packets.specs.declared.stages.Stage.{Stage}
use Rattle.packets.specs.Stages.{vacant}
use Rattle.draining.specs.Sound.{hopeful, hope}

-- a fact of every stage by its index
pub at_set : (Q : ℕ → Stage → Type 0) (xs : List Stage) (s : ℕ) (x : Stage) → s < length xs → Q s x →
    ((k : ℕ) → Q k (get_or xs k vacant)) → (k : ℕ) → Q k (get_or (set xs s x) k vacant)
at_set Q xs s x l q h k =
    ⊎_elim
    (λ e. subst (λ j. Q j (get_or (set xs s x) j vacant)) (sym e) (subst (Q s) (sym (get_or-set_same xs s x vacant l)) q))
    (λ ne. subst (Q k) (sym (get_or-set_other xs s k x vacant ne)) (h k))
    (cases_eq k s)

module _ (xs : List Stage) (s t : ℕ) (x y : Stage) where
  pub two_low : s < length xs → (s ≡ t → ⊥) → get_or (set (set xs s x) t y) s vacant ≡ x
  two_low l ne = get_or-set_other (set xs s x) t s y vacant ne ∙ get_or-set_same xs s x vacant l

  pub two_high : t < length xs → get_or (set (set xs s x) t y) t vacant ≡ y
  two_high l = get_or-set_same (set xs s x) t y vacant (simp length-set l)

  pub two_other : (k : ℕ) → (k ≡ s → ⊥) → (k ≡ t → ⊥) → get_or (set (set xs s x) t y) k vacant ≡ get_or xs k vacant
  two_other k n m = get_or-set_other (set xs s x) t k y vacant m ∙ get_or-set_other xs s k x vacant n

pub hope_at : (xs : List Stage) (s : ℕ) → hopeful (get_or xs s vacant) ≡ true → hope xs ≡ true
hope_at [] s e = e
hope_at (y ∷ ys) zero e = or_left (hopeful y) (hope ys) e
hope_at (y ∷ ys) (suc s) e = or_right (hopeful y) (hope ys) (hope_at ys s e)

pub hope_found : (xs : List Stage) → hope xs ≡ true → (k : ℕ) × (hopeful (get_or xs k vacant) ≡ true)
hope_found [] e = (0, e)
hope_found (y ∷ ys) e = ⊎_elim (λ h. (0, h)) (λ h. let r = hope_found ys h in (suc r.0, r.1)) (or_cases (hopeful y) (hope ys) e)

-- hope is kept where the replaced stages keep it between them
pub hope_two : (xs ys : List Stage) (s t : ℕ) → ((k : ℕ) → (k ≡ s → ⊥) → (k ≡ t → ⊥) → get_or ys k vacant ≡ get_or xs k vacant) →
    ((hopeful (get_or xs s vacant) || hopeful (get_or xs t vacant)) ≡ true → (hopeful (get_or ys s vacant) || hopeful (get_or ys t vacant)) ≡ true) → hope xs ≡ true → hope ys ≡ true
hope_two xs ys s t other h e = by (hope_found xs e).0 (hope_found xs e).1
  where
    here : (hopeful (get_or xs s vacant) || hopeful (get_or xs t vacant)) ≡ true → hope ys ≡ true
    here q = ⊎_elim (hope_at ys s) (hope_at ys t) (or_cases _ _ (h q))

    by : (k : ℕ) → hopeful (get_or xs k vacant) ≡ true → hope ys ≡ true
    by k q =
        ⊎_elim
        (λ a. here (or_left _ _ (subst (λ j. hopeful (get_or xs j vacant) ≡ true) a q)))
        (λ a. ⊎_elim
        (λ b. here (or_right _ _ (subst (λ j. hopeful (get_or xs j vacant) ≡ true) b q)))
        (λ b. hope_at ys k (ap hopeful (other k a b) ∙ q))
        (cases_eq k t))
        (cases_eq k s)

pub hope_one : (xs : List Stage) (s : ℕ) (x : Stage) → s < length xs → (hopeful (get_or xs s vacant) ≡ true → hopeful x ≡ true) → hope xs ≡ true → hope (set xs s x) ≡ true
hope_one xs s x l h =
    let e = get_or-set_same xs s x vacant l in
    hope_two xs (set xs s x) s s (λ k a b. get_or-set_other xs s k x vacant a)
    (λ q. or_left _ _ (ap hopeful e ∙ h (⊎_elim (λ z. z) (λ z. z) (or_cases _ _ q))))
