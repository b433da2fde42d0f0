-- The bytes behind a head, cut in two, and rows of one width, cut out of bytes.
use Rattle.std.proofs.Common.{◌≡◌, ℕ, zero, suc, ◌+◌, ◌-◌, ◌*◌, ◌/◌, ◌<◌, ◌≤◌, List, ◌∷◌, length, take, drop, Some, refl, ap, ◌∙◌, arith, length-drop}
use Rattle.std.proofs.Math.Nat.{mul-div_cancel_left}
use Rattle.std.proofs.lemmas.List.{take-take, drop-take, take_rest, drop-drop}
use Rattle.std.specs.List.{slice_get, IsSplitAt}
use Rattle.std.specs.Simd.{first_chunks}

-- the bytes behind a head of h bytes, cut after n more
module _ (bs : List ℕ) (h n : ℕ) where
  pub cut_front : take n (take (length bs - h) (drop h bs)) ≡ take n (drop h bs)
  cut_front = ap (take n) (take_rest bs h)

  pub cut_back : drop n (take (length bs - h) (drop h bs)) ≡ drop (h + n) bs
  cut_back = ap (drop n) (take_rest bs h) ∙ drop-drop n h bs

module _ (width : ℕ) where
  -- so many rows want no more bytes than they have
  rows_take : (n : ℕ) (xs : List ℕ) → first_chunks width n (take (width * n) xs) ≡ first_chunks width n xs
  rows_take zero xs = refl
  rows_take (suc n) xs =
      let wide : width * suc n ≡ width + width * n = grind (arith) in
      let first : take width (take (width * suc n) xs) ≡ take width xs = take-take width (width * suc n) xs (omega (arith, wide)) in
      let rest : drop width (take (width * suc n) xs) ≡ take (width * n) (drop width xs) = ap (λ (m : ℕ). drop width (take m xs)) wide ∙ drop-take width (width * n) xs in
      ap (λ (row : List ℕ). row ∷ first_chunks width n (drop width (take (width * suc n) xs))) first
      ∙ ap (λ (ys : List ℕ). take width xs ∷ first_chunks width n ys) rest
      ∙ ap (λ (rows : List (List ℕ)). take width xs ∷ rows) (rows_take n (drop width xs))

  pub length-rows : (n : ℕ) (xs : List ℕ) → length (first_chunks width n xs) ≡ n
  length-rows zero xs = refl
  length-rows (suc n) xs = ap suc (length-rows n (drop width xs))

  -- where a row stands in the bytes: row k begins at byte width * k
  pub row_at : (n k : ℕ) (xs : List ℕ) → k < n → slice_get (first_chunks width n xs) k ≡ Some (take width (drop (width * k) xs))
  row_at zero k xs l = absurd (omega arith)
  row_at (suc n) zero xs l =
      let start : 0 ≡ width * 0 = omega arith in
      ap (λ (m : ℕ). Some (take width (drop m xs))) start
  row_at (suc n) (suc k) xs l =
      let onward : width + width * k ≡ width * suc k = grind (arith) in
      row_at n k (drop width xs) (omega arith)
      ∙ ap (λ (ys : List ℕ). Some (take width ys)) (drop-drop (width * k) width xs)
      ∙ ap (λ (m : ℕ). Some (take width (drop m xs))) onward

  -- the rows behind a head, as they are cut out
  pub cut_rows : (head n wide : ℕ) (bs behind front rest : List ℕ) (rows : List (List ℕ)) → 0 < width → head ≤ length bs → behind ≡ take (length bs - head) (drop head bs) → wide ≡ width * n →
      IsSplitAt behind wide front rest → rows ≡ first_chunks width (length front / width) front
      → (head + width * n ≤ length bs) × (rows ≡ first_chunks width n (drop head bs)) × (rest ≡ drop (head + width * n) bs) × (length rows ≡ n)
  cut_rows head n wide bs behind front rest rows some low is all cut cut_out =
      let count : length front / width ≡ n = ap (λ (m : ℕ). m / width) (cut.3 ∙ all) ∙ mul-div_cancel_left n some in
      let here : front ≡ take (width * n) (drop head bs) = cut.1 ∙ ap (λ (m : ℕ). take m behind) all ∙ ap (take (width * n)) is ∙ cut_front bs head (width * n) in
      let rows_are : rows ≡ first_chunks width n (drop head bs) = cut_out ∙ ap (λ (m : ℕ). first_chunks width m front) count ∙ ap (first_chunks width n) here ∙ rows_take n (drop head bs) in (
        omega (arith, ap length (is ∙ take_rest bs head), length-drop head bs, cut.0),
        rows_are,
        cut.2 ∙ ap (λ (m : ℕ). drop m behind) all ∙ ap (drop (width * n)) is ∙ cut_back bs head (width * n),
        ap length rows_are ∙ length-rows n (drop head bs),
      )
