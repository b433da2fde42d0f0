-- Records written one after another from a count on.
use Rattle.std.proofs.Common.{◌≡◌, ℕ, ◌+◌, ◌-◌, ◌<◌, ◌≤◌, List, [], ◌∷◌, ◌++◌, length, take, drop, set, sym, refl, ap, ◌∙◌, append_assoc, arith, length-append, length-drop, take-append-drop, length-take}
use Rattle.std.proofs.lemmas.List.{set-append_right, drop_more}
use lib.Seq.{take-append-add, take-append_seam, drop-append_seam}
use Rattle.bounded_log.specs.Entries.{logged, since}

pub logged_none : {T : Type 0} (xs : List T) (c : ℕ) → logged xs c [] ≡ xs
logged_none xs c = take-append-drop c xs

-- one more record in a log
module _ {T : Type 0} (xs : List T) (c : ℕ) (rs : List T) (r : T) where
  placed : c + length rs < length xs → set (drop (length rs) (drop c xs)) 0 r ≡ r ∷ drop (length rs + 1) (drop c xs)
  placed l =
      let inside : length rs < length (drop c xs) = omega (arith, length-drop c xs) in
      ap (λ (zs : List T). set zs 0 r) (drop_more (drop c xs) (length rs) r inside)

  behind : c + length rs < length xs → set (rs ++ drop (length rs) (drop c xs)) (length rs) r ≡ (rs ++ (r ∷ [])) ++ drop (length (rs ++ (r ∷ []))) (drop c xs)
  behind l =
      let none : length rs - length rs ≡ 0 = omega arith in
      let more : length (rs ++ (r ∷ [])) ≡ length rs + 1 = length-append rs (r ∷ []) in
      set-append_right rs (drop (length rs) (drop c xs)) (length rs) (length rs) r refl (omega arith)
      ∙ ap (λ (k : ℕ). rs ++ set (drop (length rs) (drop c xs)) k r) none
      ∙ ap (λ (zs : List T). rs ++ zs) (placed l)
      ∙ sym (append_assoc rs (r ∷ []) (drop (length rs + 1) (drop c xs)))
      ∙ ap (λ (k : ℕ). (rs ++ (r ∷ [])) ++ drop k (drop c xs)) (sym more)

  pub logged_more : c + length rs < length xs → set (logged xs c rs) (c + length rs) r ≡ logged xs c (rs ++ (r ∷ []))
  logged_more l =
      let front : length (take c xs) ≡ c = omega (arith, length-take c xs) in
      let past : c + length rs - c ≡ length rs = omega arith in
      set-append_right (take c xs) (rs ++ drop (length rs) (drop c xs)) c (c + length rs) r front (omega arith)
      ∙ ap (λ (k : ℕ). take c xs ++ set (rs ++ drop (length rs) (drop c xs)) k r) past
      ∙ ap (λ (zs : List T). take c xs ++ zs) (behind l)

-- the entries since the count are the records
pub since_logged : {T : Type 0} (xs : List T) (c : ℕ) (rs : List T) → c ≤ length xs → since c (c + length rs) (logged xs c rs) ≡ rs
since_logged {T} xs c rs l =
    let front : length (take c xs) ≡ c = omega (arith, length-take c xs) in
    let rest = drop (length rs) (drop c xs) in
    ap (λ (n : ℕ). drop c (take (n + length rs) (logged xs c rs))) (sym front)
    ∙ ap (drop c) (take-append-add (take c xs) (rs ++ rest) (length rs))
    ∙ ap (λ (zs : List T). drop c (take c xs ++ zs)) (take-append_seam rs rest)
    ∙ ap (λ (n : ℕ). drop n (take c xs ++ rs)) (sym front)
    ∙ drop-append_seam (take c xs) rs
