-- What the two scans of the stages find.
use Rattle.std.proofs.Common.{◌≡◌, ℕ, zero, suc, ◌<◌, ◌≤◌, Bool, true, false, cond, not, List, length, get_or, is_some, take, MatchOption, Some, None, Option, sym, refl, ap, ◌∙◌, subst, ⊎_elim, arith, length-take}
use Rattle.std.proofs.lemmas.Bool.{cases_eq, cases_lt}
use Rattle.std.proofs.lemmas.Bool.Decides.{nat_tests}
use Rattle.std.proofs.lemmas.List.{get_or-take, get_or_past}
use Rattle.std.proofs.lemmas.List.Sums.{prefix_len_passes}
use Rattle.std.proofs.lemmas.List.Quantifiers.{position-Some}
use Rattle.std.specs.List.{position_or_len}
use Rattle.packets.specs.declared.stages.Stage.{Stage}
use Rattle.packets.specs.Stages.{vacant, result_in}
use Rattle.draining.specs.Policy.{lowest, highest}

absent : {A : Type 0} (o : Option A) → is_some o ≡ false → o ≡ None
absent o e = grind arith

negated : (b : Bool) → not b ≡ true → b ≡ false
negated false e = refl
negated true e = absurd (let z : ◌≡◌ {A = ℕ} 0 1 = cc in omega arith)

-- one stage more that passes
grown : (P : ℕ → Type 0) (m : ℕ) → ((i : ℕ) → i < m → P i) → P m → (i : ℕ) → i < suc m → P i
grown P m h e i l = ⊎_elim (λ z. subst P (sym z) e) (λ ne. h i (omega arith)) (cases_eq i m)

module _ (xs : List Stage) where
  -- no result among the first stages
  abbrev pub Dry : ℕ → Type 0
  Dry m = (i : ℕ) → i < m → result_in (get_or xs i vacant) ≡ None

  pub lowest_none : (m : ℕ) → lowest xs m ≡ None → Dry m
  lowest_none m e i l = ⊎_elim within past (cases_lt i (length (take m xs)))
    where
      within : i < length (take m xs) → result_in (get_or xs i vacant) ≡ None
      within q =
          let held : Stage → Bool = λ x. is_some (result_in x) in
          let before : i < position_or_len (λ x. is_some (result_in x)) (take m xs) = grind (arith, nat_tests) in
          let passes = prefix_len_passes (λ x. not (held x)) (take m xs) i vacant before in
          absent _ (sym (ap held (get_or-take m xs i vacant l)) ∙ negated _ passes)

      past : length (take m xs) ≤ i → result_in (get_or xs i vacant) ≡ None
      past q = let z : length xs ≤ i = grind (arith, length-take m xs) in ap result_in (get_or_past xs i vacant z)

  -- the lowest result: it is there, and none below it
  abbrev pub Lowest : ℕ → ℕ → Type 0
  Lowest m k = (k < m) × (is_some (result_in (get_or xs k vacant)) ≡ true) × Dry k

  pub lowest_some : (m k : ℕ) → lowest xs m ≡ Some k → Lowest m k
  lowest_some m k e =
      let held : Stage → Bool = λ x. is_some (result_in x) in
      let found = position-Some (λ x. is_some (result_in x)) (take m xs) k vacant e in
      let under = found.0 in
      let none = found.2 in
      let inside : k < m = grind (arith, length-take m xs) in
      (inside, sym (ap held (get_or-take m xs k vacant inside)) ∙ found.1, λ i l. absent _ (sym (ap held (get_or-take m xs i vacant (omega arith))) ∙ none i l))

  -- no packet from one stage up to another
  abbrev pub Bare : ℕ → ℕ → Type 0
  Bare h m = (i : ℕ) → h ≤ i → i < m → (get_or xs i vacant).packet ≡ None

  abbrev pub Highest : ℕ → ℕ → Type 0
  Highest m h = (h < m) × (is_some (get_or xs h vacant).packet ≡ true) × Bare (suc h) m

  pub highest_none : (m : ℕ) → highest xs m ≡ None → Bare 0 m
  highest_none zero e = λ i g l. absurd (omega arith)
  highest_none (suc m) e = by (is_some (get_or xs m vacant).packet) refl e (highest_none m)
    where
      by : (b : Bool) → is_some (get_or xs m vacant).packet ≡ b → cond b (Some m) (highest xs m) ≡ None → (highest xs m ≡ None → Bare 0 m) → Bare 0 (suc m)
      by true r e f = absurd (let z : ◌≡◌ {A = ℕ} 0 1 = cc in omega arith)
      by false r e f = λ i g. grown (λ j. (get_or xs j vacant).packet ≡ None) m (λ j. f e j (omega arith)) (absent _ r) i

  pub highest_some : (m h : ℕ) → highest xs m ≡ Some h → Highest m h
  highest_some zero h e = absurd (let z : ◌≡◌ {A = ℕ} 0 1 = cc in omega arith)
  highest_some (suc m) h e = by (is_some (get_or xs m vacant).packet) refl e (highest_some m h)
    where
      by : (b : Bool) → is_some (get_or xs m vacant).packet ≡ b → cond b (Some m) (highest xs m) ≡ Some h → (highest xs m ≡ Some h → Highest m h) → Highest (suc m) h
      by true r e f = let z : m ≡ h = cc in (omega arith, ap (λ (j : ℕ). is_some (get_or xs j vacant).packet) (sym z) ∙ r, λ i g l. absurd (omega arith))
      by false r e f =
          let a = f e in
          let above = a.2 in
          (omega arith, a.1, λ i g l. ⊎_elim (λ z. subst (λ j. (get_or xs j vacant).packet ≡ None) (sym z) (absent _ r)) (λ ne. above i g (omega arith)) (cases_eq i m))

  -- where the property holds of an answer, it is the highest
  pub highest_absent : (m : ℕ) → ((k : ℕ) → k < m → is_some (get_or xs k vacant).packet ≡ false) → highest xs m ≡ None
  highest_absent zero h = refl
  highest_absent (suc m) h = rw (h m (omega arith)) (highest_absent m (λ k l. h k (omega arith)))

  pub highest_present : (m h : ℕ) → h < m → is_some (get_or xs h vacant).packet ≡ true → ((k : ℕ) → h < k → k < m → is_some (get_or xs k vacant).packet ≡ false) → highest xs m ≡ Some h
  highest_present zero h l e above = absurd (omega arith)
  highest_present (suc m) h l e above =
      ⊎_elim
      (λ z. let here : is_some (get_or xs m vacant).packet ≡ true = ap (λ (j : ℕ). is_some (get_or xs j vacant).packet) (sym z) ∙ e in rw here (ap Some (sym z)))
      (λ ne. rw (above m (omega arith) (omega arith)) (highest_present m h (omega arith) e (λ k a b. above k a (omega arith))))
      (cases_eq h m)

  -- a stage that is not among the first ones holds no packet
  here : (m k : ℕ) → (k < length (take m xs) → is_some (get_or (take m xs) k vacant).packet ≡ false) → k < m → is_some (get_or xs k vacant).packet ≡ false
  here m k f l =
      ⊎_elim
      (λ q. sym (ap (λ (x : Stage). is_some x.packet) (get_or-take m xs k vacant l)) ∙ f q)
      (λ q. let z : length xs ≤ k = grind (arith, length-take m xs) in ap (λ (x : Stage). is_some x.packet) (get_or_past xs k vacant z))
      (cases_lt k (length (take m xs)))

  -- what a scan from the top finds among the first stages
  pub highest_taken : (m : ℕ) (o : Option ℕ) →
      MatchOption o ((k : ℕ) → k < length (take m xs) → is_some (get_or (take m xs) k vacant).packet ≡ false)
      (λ h. (h < length (take m xs)) × ((is_some (get_or (take m xs) h vacant).packet ≡ true) × ((k : ℕ) → h < k → k < length (take m xs) → is_some (get_or (take m xs) k vacant).packet ≡ false))) →
      o ≡ highest xs m
  highest_taken m None f = sym (highest_absent m (λ k l. here m k (f k) l))
  highest_taken m (Some h) f =
      let under = f.0 in
      let there = f.1.0 in
      let none = f.1.1 in
      let inside : h < m = grind (arith, length-take m xs) in
      sym (highest_present m h inside (sym (ap (λ (x : Stage). is_some x.packet) (get_or-take m xs h vacant inside)) ∙ there) (λ k a l. here m k (none k a) l))
