-- A search from the top down for the last stage that is able.
use Rattle.std.proofs.Common.{◌≡◌, ℕ, ◌+◌, Bool, true, false, List, [], ◌∷◌, Some, None, Option, MatchOption, sym, refl, ap, ◌∙◌, subst, ⊎_elim, arith}
use Rattle.std.proofs.lemmas.Bool.{cases_eq}
use Rattle.std.proofs.iter.runs.Sources.{nat_range_steps_back}
use Rattle.std.specs.Bool.{⊤}
use Rattle.std.specs.Fn.{CalledAt}
use Rattle.std.specs.Iterator.{YieldsThen}
use Rattle.std.specs.Iterator.Adapters.{rev_source, rev_steps}
use Rattle.std.specs.List.{FoldsTo}
use Rattle.std.specs.declared.iter.Rev.{Rev}
use Rattle.std.specs.declared.ops.Range.{Range}
use denote.Param.Members.{Mut}
use denote.Ref.{Bor}
use Rattle.layout.specs.Able.{able, LastBelow}

module _ (sets : List ℕ) (operation : ℕ) where
  here : (i : ℕ) → able sets i operation ≡ false → (s : ℕ) → s ≡ i → able sets s operation ≡ false
  here i h s e = ap (λ (k : ℕ). able sets k operation) e ∙ h

  -- one stage more, which is not able
  last_kept : (n i : ℕ) (o : Option ℕ) → n ≡ i + 1 → able sets i operation ≡ false → LastBelow i sets operation o → LastBelow n sets operation o
  last_kept n i None e h below = λ s l. ⊎_elim (here i h s) (λ ne. below s (omega arith)) (cases_eq s i)
  last_kept n i (Some k) e h below =
      let under = below.0 in
      (omega arith, below.1, λ s l m. ⊎_elim (here i h s) (λ ne. below.2 s l (omega arith)) (cases_eq s i))

  module _ {F : Type 0} {g : Mut F (Bor ℕ × Unit {0}) Bool} (f : F) (u : Rev (Range ℕ)) (o : Option ℕ)
      (on : (x : ℕ) (q : F) → CalledAt g f x true q → able sets x operation ≡ true)
      (off : (x : ℕ) (q : F) → CalledAt g f x false q → (q ≡ f) × (able sets x operation ≡ false)) where
    abbrev steps : Rev (Range ℕ) → Option ℕ → Rev (Range ℕ) → Type 0
    steps = rev_steps nat_range_steps_back

    ends : (s t : Rev (Range ℕ)) (n : ℕ) (q : F) (r : Option ℕ) → q ≡ f → s ≡ t → (rev_source s).start ≡ 0 → (rev_source s).end ≡ n → steps t r u → MatchOption r ⊤ (λ x. (h : F) × CalledAt g q x true h) → LastBelow n sets operation r
    ends s t n q None e z a b y m =
        let low = ap (λ (v : Rev (Range ℕ)). (rev_source v).start) z in
        let high = ap (λ (v : Rev (Range ℕ)). (rev_source v).end) z in
        λ k l. absurd (omega (arith, y.1.0))
    ends s t n q (Some x) e z a b y m =
        let low = ap (λ (v : Rev (Range ℕ)). (rev_source v).start) z in
        let high = ap (λ (v : Rev (Range ℕ)). (rev_source v).end) z in
        (omega (arith, y.1.2, y.1.1), on x m.0 (subst (λ (p : F). CalledAt g p x true m.0) e m.1), λ k l h. absurd (omega (arith, y.1.2, y.1.1)))

    walk : (xs : List ℕ) (s : Rev (Range ℕ)) (n : ℕ) (j p : F) → p ≡ f → (rev_source s).start ≡ 0 → (rev_source s).end ≡ n → YieldsThen steps s xs o u
        → FoldsTo (λ p x q. CalledAt g p x false q) p xs j → MatchOption o ⊤ (λ x. (h : F) × CalledAt g j x true h) → LastBelow n sets operation o
    walk [] s n j p e z l y c m = ends s y.0 n j o (sym c ∙ e) y.1 z l y.2 m
    walk (x ∷ xs) s n j p e z l y c m =
        let v = y.1.0 in
        let k = off x c.0 (subst (λ (p : F). CalledAt g p x false c.0) e c.1) in
        last_kept n x o (omega (arith, l, y.1.1.1.2, y.1.1.1.1)) k.1 (walk xs v x j c.0 k.0 (y.1.1.0 ∙ z) (sym y.1.1.1.1) (y.0, y.1.2, y.2) c.2 m)

  pub last_found : {F : Type 0} {g : Mut F (Bor ℕ × Unit {0}) Bool} (f : F) (s u : Rev (Range ℕ)) (n : ℕ) (o : Option ℕ)
      → (xs : List ℕ) × (j : F) × YieldsThen (rev_steps nat_range_steps_back) s xs o u × FoldsTo (λ p x q. CalledAt g p x false q) f xs j × MatchOption o ⊤ (λ x. (h : F) × CalledAt g j x true h)
      → {m : ℕ} → rev_source s ≡ record { start = 0; end = m } → m ≡ n
      → ((x : ℕ) (q : F) → CalledAt g f x true q → able sets x operation ≡ true) → ((x : ℕ) (q : F) → CalledAt g f x false q → (q ≡ f) × (able sets x operation ≡ false))
      → LastBelow n sets operation o
  last_found f s u n o r e l on off = walk f u o on off r.0 s n r.1 f refl (ap (λ (v : Range ℕ). v.start) e) (ap (λ (v : Range ℕ). v.end) e ∙ l) r.2 r.3 r.4
