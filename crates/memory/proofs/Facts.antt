-- Reading and writing by cases, and the first words of a longer list.
use Rattle.std.proofs.Common.{◌≡◌, ℕ, ◌<◌, ◌≤◌, List, length, get_or, take, drop, set, Ok, Err, sym, ap, ◌∙◌, arith, length-take, le-ltb, lt-ltb}
use Rattle.std.proofs.lemmas.List.{drop-set-lt, get_or-take}
use Rattle.std.proofs.Math.Seq.{take-set-lt}
use Rattle.memory.specs.declared.access.AccessFault.TheVariants.{Outside}
use Rattle.memory.specs.Words.{read_of, write_of, written}

module _ (ws : List ℕ) (a : ℕ) where
  pub read_in : a < length ws → read_of ws a ≡ Ok (get_or ws a 0)
  read_in h = let e = lt-ltb a (length ws) h in rw e

  pub read_out : length ws ≤ a → read_of ws a ≡ Err Outside
  read_out h = let e = le-ltb a (length ws) h in rw e

  pub write_in : a < length ws → write_of ws a ≡ Ok tt
  write_in h = let e = lt-ltb a (length ws) h in rw e

  pub write_out : length ws ≤ a → write_of ws a ≡ Err Outside
  write_out h = let e = le-ltb a (length ws) h in rw e

  pub written_in : (w : ℕ) → a < length ws → written ws a w ≡ set ws a w
  written_in w h = let e = lt-ltb a (length ws) h in rw e

  pub written_out : (w : ℕ) → length ws ≤ a → written ws a w ≡ ws
  written_out w h = let e = le-ltb a (length ws) h in rw e

module _ (n : ℕ) (xs : List ℕ) (a : ℕ) (h : a < length (take n xs)) where
  below : a < n
  below = omega (arith, length-take n xs)

  pub inside : a < length xs
  inside = omega (arith, length-take n xs)

  pub front_read : Ok (get_or xs a 0) ≡ read_of (take n xs) a
  front_read = sym (read_in (take n xs) a h ∙ ap Ok (get_or-take n xs a 0 below))

  pub front_written : (w : ℕ) → take n (set xs a w) ≡ written (take n xs) a w
  front_written w = take-set-lt n xs a w below ∙ sym (written_in (take n xs) a w h)

  pub back_same : (w : ℕ) → drop n (set xs a w) ≡ drop n xs
  back_same w = drop-set-lt n xs a w below
