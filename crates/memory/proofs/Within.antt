-- A window's words, what a read or a write through it is below, and what such a write changes.
use Rattle.std.proofs.Common.{◌≡◌, ℕ, ◌+◌, ◌<◌, ◌≤◌, List, [], ◌∷◌, length, get_or, take, drop, set, Ok, sym, ap, ◌∙◌, ⊎_elim, arith, length-drop, length-set, length-take, le-ltb, lt-ltb, le-leb}
use Rattle.std.proofs.lemmas.List.{get_or-drop, get_or-take, drop-set-add, drop-set-lt, take-set-le}
use Rattle.std.proofs.Math.Seq.{take-set-lt}
use borrow.Author.Tests.{lt-leb}
use Rattle.std.proofs.lemmas.Bool.Decides.{leb_tells}
use Rattle.memory.specs.Words.{read_of, write_of, written}
use Rattle.memory.specs.Windows.{window_of, outside_of, written_below}
use Rattle.memory.proofs.Facts.{read_in, write_in, written_in}

module _ (ws : List ℕ) (base size : ℕ) where
  pub window_in : base + size ≤ length ws → window_of ws base size ≡ take size (drop base ws)
  window_in h = let e = le-leb (base + size) (length ws) h in rw e

  pub window_none : length ws < base + size → length (window_of ws base size) ≡ 0
  window_none h = let e = lt-leb (base + size) (length ws) h in rw e

  pub window_length : base + size ≤ length ws → length (window_of ws base size) ≡ size
  window_length h = ap length (window_in h) ∙ simp (length-take, length-drop) (omega arith)

  outside_in : base + size ≤ length ws → outside_of ws base size ≡ take base ws ∷ (drop (base + size) ws ∷ [])
  outside_in h = let e = le-leb (base + size) (length ws) h in rw e

-- an address of the window lies below, is the same word there, and is written as that word
module _ (ws : List ℕ) (base size a : ℕ) (h : a < length (window_of ws base size)) where
  pub fits : base + size ≤ length ws
  fits = ⊎_elim (λ p. p.1) (λ p. absurd (let e = window_none ws base size p.1 in omega arith)) (leb_tells (base + size) (length ws))

  below_size : a < size
  below_size = omega (arith, window_length ws base size fits)

  pub inside : base + a < length ws
  inside = omega (arith, fits, below_size)

  pub window_read : read_of ws (base + a) ≡ read_of (window_of ws base size) a
  window_read =
      read_in ws (base + a) inside
      ∙ ap Ok (sym (ap (λ (xs : List ℕ). get_or xs a 0) (window_in ws base size fits) ∙ get_or-take size (drop base ws) a 0 below_size ∙ get_or-drop base ws a 0))
      ∙ sym (read_in (window_of ws base size) a h)

  pub window_write : write_of ws (base + a) ≡ write_of (window_of ws base size) a
  window_write = write_in ws (base + a) inside ∙ sym (write_in (window_of ws base size) a h)

  module _ (w : ℕ) where
    still_fits : base + size ≤ length (set ws (base + a) w)
    still_fits = simp length-set fits

    pub window_written : window_of (written ws (base + a) w) base size ≡ written (window_of ws base size) a w
    window_written =
        ap (λ (xs : List ℕ). window_of xs base size) (written_in ws (base + a) w inside)
        ∙ window_in (set ws (base + a) w) base size still_fits
        ∙ ap (take size) (drop-set-add base ws a w)
        ∙ take-set-lt size (drop base ws) a w below_size
        ∙ ap (λ (xs : List ℕ). set xs a w) (sym (window_in ws base size fits))
        ∙ sym (written_in (window_of ws base size) a w h)

    pub below_in : written_below ws base size a w ≡ written ws (base + a) w
    below_in = let e = lt-ltb a (length (window_of ws base size)) h in rw e

    pub outside_same : outside_of (written ws (base + a) w) base size ≡ outside_of ws base size
    outside_same =
        ap (λ (xs : List ℕ). outside_of xs base size) (written_in ws (base + a) w inside)
        ∙ outside_in (set ws (base + a) w) base size still_fits
        ∙ ap (λ (xs : List ℕ). xs ∷ (drop (base + size) (set ws (base + a) w) ∷ [])) (take-set-le base ws (base + a) w (omega arith))
        ∙ ap (λ (xs : List ℕ). take base ws ∷ (xs ∷ [])) (drop-set-lt (base + size) ws (base + a) w (omega (arith, below_size)))
        ∙ sym (outside_in ws base size fits)

pub below_out : (ws : List ℕ) (base size a w : ℕ) → length (window_of ws base size) ≤ a → written_below ws base size a w ≡ ws
below_out ws base size a w h = let e = le-ltb a (length (window_of ws base size)) h in rw e
