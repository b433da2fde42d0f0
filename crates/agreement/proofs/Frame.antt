-- From one or two stages to the whole walk.
use Rattle.std.proofs.Common.{◌≡◌, ℕ, zero, suc, ◌<◌, List, [], ◌∷◌, length, get_or, drop, set, refl, ap, arith}
use Rattle.packets.specs.declared.stages.Stage.{Stage}
use Rattle.packets.specs.Stages.{vacant}
use Rattle.stepper.specs.Machine.{World}
use Rattle.agreement.specs.Walk.{View, after, down, Ok, Good}
use Rattle.agreement.proofs.Local.{Wide, after_wide, Same, Same2}

-- xs below v, and xs' in their place below v'
pub record Kept (W : World) (v v' : View) (xs xs' : List Stage) : Type 0 where
  pub good : Good W v' xs'
  pub view : down W v' xs' ≡ down W v xs

-- an empty stage passes every view on
empty_passes : (W : World) (u v : View) (x : Stage) → x ≡ vacant → u ≡ v → (after W u x ≡ v) × Ok W u x
empty_passes W u v x e q = grind arith

module _ (W : World) (v : View) where
  pub down_wide : (xs : List Stage) → Wide v → Wide (down W v xs)
  down_wide [] h = h
  down_wide (x ∷ xs) h = after_wide W (down W v xs) x (down_wide xs h)

  pub good_above : (k : ℕ) (xs : List Stage) → Good W v xs → Good W v (drop k xs)
  good_above zero xs g = g
  good_above (suc k) [] g = tt
  good_above (suc k) (x ∷ xs) g = good_above k xs g.0

  pub ok_at : (k : ℕ) (xs : List Stage) → k < length xs → Good W v xs → Ok W (down W v (drop (suc k) xs)) (get_or xs k vacant)
  ok_at k [] l g = absurd (omega arith)
  ok_at zero (x ∷ xs) l g = g.1
  ok_at (suc k) (x ∷ xs) l g = ok_at k xs (omega arith) g.0

  pub hollow : (xs : List Stage) → ((j : ℕ) → get_or xs j vacant ≡ vacant) → (down W v xs ≡ v) × Good W v xs
  hollow [] h = (refl, tt)
  hollow (x ∷ xs) h =
      let k = hollow xs (λ j. h (suc j)) in
      let e = empty_passes W (down W v xs) v x (h 0) k.0 in
      (e.0, (k.1, e.1))

  -- above the top stage nothing changes the view
  pub calm : (k : ℕ) (xs : List Stage) → ((j : ℕ) → k < j → get_or xs j vacant ≡ vacant) → (down W v (drop (suc k) xs) ≡ v) × Good W v (drop (suc k) xs)
  calm k [] h = (refl, tt)
  calm zero (x ∷ xs) h = hollow xs (λ j. h (suc j) (omega arith))
  calm (suc k) (x ∷ xs) h = calm k xs (λ j l. h (suc j) (omega arith))

  -- the bottom stage
  pub bottom_is : (xs : List Stage) → 0 < length xs → down W v xs ≡ after W (down W v (drop 1 xs)) (get_or xs 0 vacant)
  bottom_is [] l = absurd (omega arith)
  bottom_is (x ∷ xs) l = refl

  pub bottom_set : (xs : List Stage) (x' : Stage) → 0 < length xs → Good W v xs → Ok W (down W v (drop 1 xs)) x' →
      Good W v (set xs 0 x') × (down W v (set xs 0 x') ≡ after W (down W v (drop 1 xs)) x')
  bottom_set [] x' l g o = absurd (omega arith)
  bottom_set (x ∷ xs) x' l g o = ((g.0, o), refl)

module _ (W : World) (v v' : View) where
  under : (x : Stage) (xs xs' : List Stage) → Ok W (down W v xs) x → Kept W v v' xs xs' → Kept W v v' (x ∷ xs) (x ∷ xs')
  under x xs xs' k h = record { good = (h.good, rw h.view k); view = ap (λ u. after W u x) h.view }

  -- one stage replaced
  pub keeps_one : (k : ℕ) (xs : List Stage) (x' : Stage) → k < length xs → Good W v' (drop (suc k) xs) →
      (Ok W (down W v (drop (suc k) xs)) (get_or xs k vacant) → Same W (down W v (drop (suc k) xs)) (down W v' (drop (suc k) xs)) (get_or xs k vacant) x') →
      Good W v xs → Kept W v v' xs (set xs k x')
  keeps_one k [] x' l b h g = absurd (omega arith)
  keeps_one zero (x ∷ xs) x' l b h g = let s = h g.1 in record { good = (b, s.ok); view = s.view }
  keeps_one (suc k) (x ∷ xs) x' l b h g = under x xs (set xs k x') g.1 (keeps_one k xs x' (omega arith) b h g.0)

-- two neighbours replaced
pub keeps_two : (W : World) (v : View) (k : ℕ) (xs : List Stage) (x' y' : Stage) → suc k < length xs →
    (Ok W (down W v (drop (suc (suc k)) xs)) (get_or xs (suc k) vacant) →
    Ok W (after W (down W v (drop (suc (suc k)) xs)) (get_or xs (suc k) vacant)) (get_or xs k vacant) →
    Same2 W (down W v (drop (suc (suc k)) xs)) (get_or xs k vacant) (get_or xs (suc k) vacant) x' y') →
    Good W v xs → Kept W v v xs (set (set xs k x') (suc k) y')
keeps_two W v k [] x' y' l h g = absurd (omega arith)
keeps_two W v zero (x ∷ []) x' y' l h g = absurd (omega arith)
keeps_two W v zero (x ∷ (y ∷ ys)) x' y' l h g = let s = h g.0.1 g.1 in record { good = ((g.0.0, s.ok_high), s.ok_low); view = s.view }
keeps_two W v (suc k) (x ∷ xs) x' y' l h g = under W v v x xs _ g.1 (keeps_two W v k xs x' y' (omega arith) h g.0)

-- two neighbours are set in either order
pub set_neighbours : (k : ℕ) (xs : List Stage) (x' y' : Stage) → set (set xs k x') (suc k) y' ≡ set (set xs (suc k) y') k x'
set_neighbours k [] x' y' = refl
set_neighbours zero (x ∷ xs) x' y' = refl
set_neighbours (suc k) (x ∷ xs) x' y' = ap (λ u. x ∷ u) (set_neighbours k xs x' y')
