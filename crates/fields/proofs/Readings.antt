-- Rows that were read: how many there are, that none has a fault, and what stands at a place.
use Rattle.std.proofs.Common.{◌≡◌, ℕ, zero, suc, ◌+◌, ◌*◌, ◌<◌, Bool, true, false, cond, not, map, List, [], ◌∷◌, length, get_or, drop, is_some, Some, None, Ok, Err, Option, Result, option_map, sym, refl, ap, ◌∙◌, arith}
use Rattle.std.specs.List.{slice_get}
use Rattle.std.specs.Result.{result_ok, result_err, result_unwrap_or}
use Rattle.std.proofs.lemmas.Option.{slice_get-map, slice_get-get_or}
use Rattle.fields.specs.declared.scanning.EntriesFault.{EntriesFault}
use Rattle.fields.specs.declared.scanning.EntriesFault.TheVariants.{Entry}
use Rattle.fields.specs.Scanning.{or_else, first_in, numbered}
use Rattle.fields.specs.Files.{rows_of, split_by, split_of}
use Rattle.fields.proofs.Cuts.{length-rows}

or_none : {F : Type 0} (a b : Option F) → or_else a b ≡ None → (a ≡ None) × (b ≡ None)
or_none None b e = (refl, e)
or_none (Some f) b e = absurd (let z : ◌≡◌ {A = ℕ} 0 1 = cc in omega arith)

not_some : {F : Type 0} (o : Option F) → not (is_some o) ≡ true → o ≡ None
not_some None h = refl
not_some (Some f) h = absurd (let z : ◌≡◌ {A = ℕ} 0 1 = cc in omega arith)

unnumbered : {F : Type 0} (k : ℕ) (o : Option F) → option_map (Entry k) o ≡ None → o ≡ None
unnumbered k None h = refl
unnumbered k (Some f) h = absurd (let z : ◌≡◌ {A = ℕ} 0 1 = cc in omega arith)

-- where no fault is found, no row has one
module _ {F : Type 0} (fault : ℕ → List ℕ → Option F) where
  none_from : (i k : ℕ) (rows : List (List ℕ)) (row : List ℕ) → first_in (numbered fault) i rows ≡ None → slice_get rows k ≡ Some row → fault (i + k) row ≡ None
  none_from i k [] row e g = absurd (let z : ◌≡◌ {A = ℕ} 0 1 = cc in omega arith)
  none_from i zero (r ∷ rows) row e g =
      let here : i + 0 ≡ i = omega arith in
      let same : r ≡ row = cc in
      ap (λ (j : ℕ). fault j row) here ∙ ap (fault i) (sym same) ∙ unnumbered i _ (or_none _ _ e).0
  none_from i (suc k) (r ∷ rows) row e g =
      let here : i + suc k ≡ suc i + k = omega arith in
      ap (λ (j : ℕ). fault j row) here ∙ none_from (suc i) k rows row (or_none _ _ e).1 g

  pub sound_at : (k : ℕ) (rows : List (List ℕ)) (row : List ℕ) → not (is_some (first_in (numbered fault) 0 rows)) ≡ true → slice_get rows k ≡ Some row → fault k row ≡ None
  sound_at k rows row h g =
      let here : 0 + k ≡ k = omega arith in
      ap (λ (j : ℕ). fault j row) (sym here) ∙ none_from 0 k rows row (not_some _ h) g

-- what is read of rows, none of which has a fault
module _ {A F : Type 0} (read : List ℕ → Result A F) (otherwise : A) where
  right : (r : Result A F) → result_err r ≡ None → Some (result_unwrap_or r otherwise) ≡ result_ok r
  right (Ok x) e = refl
  right (Err f) e = absurd (let z : ◌≡◌ {A = ℕ} 0 1 = cc in omega arith)

  pub read_none : (k : ℕ) (rows : List (List ℕ)) → slice_get rows k ≡ None → slice_get (map (λ row. result_unwrap_or (read row) otherwise) rows) k ≡ None
  read_none k rows e = slice_get-map (λ row. result_unwrap_or (read row) otherwise) rows k ∙ ap (option_map (λ row. result_unwrap_or (read row) otherwise)) e

  pub read_some : (k : ℕ) (rows : List (List ℕ)) (row : List ℕ) → k < length rows → row ≡ get_or rows k row → not (is_some (first_in (numbered (λ _ r. result_err (read r))) 0 rows)) ≡ true
      → slice_get (map (λ r. result_unwrap_or (read r) otherwise) rows) k ≡ result_ok (read row)
  read_some k rows row l e h =
      let here : slice_get rows k ≡ Some row = slice_get-get_or rows k row l ∙ ap Some (sym e) in
      slice_get-map (λ r. result_unwrap_or (read r) otherwise) rows k
      ∙ ap (option_map (λ r. result_unwrap_or (read r) otherwise)) here
      ∙ right (read row) (sound_at (λ _ r. result_err (read r)) k rows row h here)

-- rows that were split off
unless_err : {A E : Type 0} (b : Bool) (e : E) (r : Result A E) (x : A) → cond b (Err e) r ≡ Ok x → r ≡ Ok x
unless_err true e r x h = absurd (let z : ◌≡◌ {A = ℕ} 0 1 = cc in omega arith)
unless_err false e r x h = h

module _ {F : Type 0} (fault : ℕ → List ℕ → Option F) (width head n : ℕ) (bs : List ℕ) (rows : List (List ℕ)) (rest : List ℕ) where
  by_none : (o : Option (EntriesFault F)) → split_by fault width head n bs o ≡ Ok (rows, rest) → (o ≡ None) × (rows_of fault width head n bs ≡ rows)
  by_none None e =
      let same : (rows_of fault width head n bs, drop (head + width * n) bs) ≡ (rows, rest) = cc in
      (refl, ap (λ (p : List (List ℕ) × List ℕ). p.0) same)
  by_none (Some wrong) e = absurd (let z : ◌≡◌ {A = ℕ} 0 1 = cc in omega arith)

  -- there are as many as were asked for, and none has a fault
  pub split_rows : split_of fault width head n bs ≡ Ok (rows, rest) → (length rows ≡ n) × (not (is_some (first_in (numbered fault) 0 rows)) ≡ true)
  split_rows split =
      let found = by_none _ (unless_err _ _ _ _ split) in (
        ap length (sym found.1) ∙ length-rows width n (drop head bs),
        ap (λ (zs : List (List ℕ)). not (is_some (first_in (numbered fault) 0 zs))) (sym found.1)
            ∙ ap (λ (o : Option (EntriesFault F)). not (is_some o)) found.0,
      )
