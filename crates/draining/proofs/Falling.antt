-- The measure over the stages that a move touches, and from there over the whole pipeline.
use Rattle.std.proofs.Common.{◌≡◌, ℕ, zero, suc, ◌+◌, ◌<◌, ◌≤◌, List, [], ◌∷◌, length, get_or, set, Some, None, Option, sym, refl, subst, ⊎_elim, arith, length-set, get_or-set_other, get_or-set_same}
use Rattle.std.proofs.lemmas.Bool.{cases_eq}
use Rattle.std.proofs.lemmas.Bool.Decides.{nat_tests}
use Rattle.instruction.specs.declared.numbers.Register.{Register}
use Rattle.packets.specs.declared.bindings.Source.{Source}
use Rattle.packets.specs.declared.packets.Packet.{Packet}
use Rattle.packets.specs.declared.results.PipeResult.{PipeResult}
use Rattle.packets.specs.declared.results.PipeResult.TheVariants.{Value}
use Rattle.packets.specs.declared.stages.Stage.{Stage}
use Rattle.packets.specs.Meeting.{garnered, met_packet}
use Rattle.packets.specs.Stages.{vacant, result_in, met}
use Rattle.draining.proofs.Frames.{two_low, two_high, two_other}
use Rattle.draining.specs.Measure.{weight, weights, lacks, work, on_top, seen, task}

module _ (n : ℕ) where
  pub seen_mono : (o : Option Packet) (r : Option PipeResult) (low low' : List PipeResult → ℕ) (above : List PipeResult) →
      ((a : List PipeResult) → low a ≤ low' a) → seen n o r low above ≤ seen n o r low' above
  seen_mono None r low low' above h = h (on_top above r)
  seen_mono (Some p) r low low' above h = omega arith

  -- a source that a value reaches lacks no more than it lacked with the value above it
  garnered_lacks : (r : Register) (w : ℕ) (above : List PipeResult) (s : Source) → lacks above (garnered r w s) ≡ lacks (Value r w ∷ above) s
  garnered_lacks r w above s = grind (arith, nat_tests)

  pub meet_work : (p : Packet) (r : PipeResult) (above : List PipeResult) → work n above (met_packet p r) ≤ work n (r ∷ above) p
  meet_work p r above = grind (arith, nat_tests, garnered_lacks)

  pub met_seen : (o : Option Packet) (r : Option PipeResult) (low : List PipeResult → ℕ) (above : List PipeResult) →
      seen n (met o r).packet (result_in (met o r)) low above ≤ seen n o None low (on_top above r)
  met_seen None r low above = omega arith
  met_seen (Some p) None low above = omega arith
  met_seen (Some p) (Some r) low above = meet_work p r above

  pub raise_seen : (o : Option Packet) (r q : Option PipeResult) (low : List PipeResult → ℕ) (above : List PipeResult) →
      seen n (met o q).packet (result_in (met o q)) (seen n None r low) above ≤ seen n None q (seen n o r low) above
  raise_seen None r q low above = omega arith
  raise_seen (Some p) r q low above = met_seen (Some p) q (seen n None r low) above

  pub lower_seen : (o u : Option Packet) (r : Option PipeResult) (low : List PipeResult → ℕ) (above : List PipeResult) →
      seen n u None (seen n (met o r).packet (result_in (met o r)) low) above ≤ seen n u r (seen n o None low) above
  lower_seen o None r low above = met_seen o r low above
  lower_seen o (Some p) r low above = omega arith

  -- stages that are as they were
  pub task_below : (xs ys : List Stage) (m : ℕ) → ((i : ℕ) → i < m → get_or ys i vacant ≡ get_or xs i vacant) → (above : List PipeResult) → task n ys m above ≤ task n xs m above
  task_below xs ys zero h above = omega arith
  task_below xs ys (suc m) h above =
      rw (h m (omega arith)) (seen_mono (get_or xs m vacant).packet (result_in (get_or xs m vacant)) (task n ys m) (task n xs m) above (task_below xs ys m (λ i l. h i (omega arith))))

  pub task_above : (xs ys : List Stage) (j m : ℕ) → j ≤ m → ((i : ℕ) → j ≤ i → get_or ys i vacant ≡ get_or xs i vacant) →
      ((above : List PipeResult) → task n ys j above ≤ task n xs j above) → (above : List PipeResult) → task n ys m above ≤ task n xs m above
  task_above xs ys j zero l h t above = omega arith
  task_above xs ys j (suc m) l h t above =
      ⊎_elim
      (λ e. subst (λ k. task n ys k above ≤ task n xs k above) e (t above))
      (λ ne. let k : j ≤ m = omega arith in
      rw (h m k) (seen_mono (get_or xs m vacant).packet (result_in (get_or xs m vacant)) (task n ys m) (task n xs m) above (task_above xs ys j m k h t)))
      (cases_eq j (suc m))

  pub weights_set : (xs : List Stage) (s m : ℕ) (x : Stage) → s < m → s < length xs → weights n (set xs s x) m + weight n s (get_or xs s vacant) ≡ weights n xs m + weight n s x
  weights_set xs s zero x l k = absurd (omega arith)
  weights_set xs s (suc m) x l k =
      ⊎_elim
      (λ e. let h = weights-past xs s m x (omega arith) in subst (λ j. weight n j (get_or (set xs s x) j vacant) + weights n (set xs s x) m + weight n s (get_or xs s vacant) ≡ weight n j (get_or xs j vacant) + weights n xs m + weight n s x) e
      (rw (get_or-set_same xs s x vacant k, h) (omega arith)))
      (λ ne. let h = weights_set xs s m x (omega arith) k in rw (get_or-set_other xs s m x vacant (λ z. ne (sym z))) (omega arith))
      (cases_eq s m)
    where
      weights-past : (xs : List Stage) (s m : ℕ) (x : Stage) → m ≤ s → weights n (set xs s x) m ≡ weights n xs m
      weights-past xs s zero x l = refl
      weights-past xs s (suc m) x l = rw (get_or-set_other xs s m x vacant (λ z. omega arith), weights-past xs s m x (omega arith))

  -- two stages replaced
  pub record Two (xs ys : List Stage) (s t : ℕ) (x y : Stage) : Type 0 where
    pub low : get_or ys s vacant ≡ x
    pub high : get_or ys t vacant ≡ y
    pub other : (k : ℕ) → (k ≡ s → ⊥) → (k ≡ t → ⊥) → get_or ys k vacant ≡ get_or xs k vacant
    pub weighed : weights n ys n + weight n s (get_or xs s vacant) + weight n t (get_or xs t vacant) ≡ weights n xs n + weight n s x + weight n t y

  pub two_sets : (xs : List Stage) (s t : ℕ) (x y : Stage) → n ≤ length xs → s < n → t < n → (s ≡ t → ⊥) → Two xs (set (set xs s x) t y) s t x y
  two_sets xs s t x y l a b ne =
      let w = weights_set xs s n x a (omega arith) in
      let v = rw (get_or-set_other xs s t x vacant (λ z. ne (sym z))) at (weights_set (set xs s x) t n y b (simp length-set (omega arith))) in
      record {
        low = two_low xs s t x y (omega arith) ne;
        high = two_high xs s t x y (omega arith);
        other = two_other xs s t x y;
        weighed = omega arith;
      }

  pub swapped : (xs ys : List Stage) (s t : ℕ) (x y : Stage) → Two xs ys s t x y → Two xs ys t s y x
  swapped xs ys s t x y h = record { low = h.high; high = h.low; other = λ k a b. h.other k b a; weighed = let w = h.weighed in omega arith }

  pub two_fall : (xs ys : List Stage) (s t : ℕ) (x y : Stage) → Two xs ys s t x y → t ≡ suc s → t < n →
      weight n s x + weight n t y + 1 ≤ weight n s (get_or xs s vacant) + weight n t (get_or xs t vacant) →
      ((low : List PipeResult → ℕ) (above : List PipeResult) →
      seen n y.packet (result_in y) (seen n x.packet (result_in x) low) above
      ≤ seen n (get_or xs t vacant).packet (result_in (get_or xs t vacant)) (seen n (get_or xs s vacant).packet (result_in (get_or xs s vacant)) low) above) →
      weights n ys n + task n ys n [] < weights n xs n + task n xs n []
  two_fall xs ys s t x y h e l w q =
      let a = h.weighed in
      let z : task n ys n [] ≤ task n xs n [] = task_above xs ys (suc t) n l (λ i k. h.other i (λ u. omega arith) (λ u. omega arith)) pair [] in
      omega arith
    where
      after : (above : List PipeResult) → task n ys t above ≤ seen n x.packet (result_in x) (task n xs s) above
      after above =
          subst (λ j. task n ys j above ≤ seen n x.packet (result_in x) (task n xs s) above) (sym e)
          (rw h.low (seen_mono x.packet (result_in x) (task n ys s) (task n xs s) above (task_below xs ys s (λ i k. h.other i (λ u. omega arith) (λ u. omega arith)))))

      before : (above : List PipeResult) → seen n (get_or xs s vacant).packet (result_in (get_or xs s vacant)) (task n xs s) above ≤ task n xs t above
      before above = subst (λ j. seen n (get_or xs s vacant).packet (result_in (get_or xs s vacant)) (task n xs s) above ≤ task n xs j above) (sym e) (omega arith)

      pair : (above : List PipeResult) → task n ys (suc t) above ≤ task n xs (suc t) above
      pair above =
          let a = seen_mono y.packet (result_in y) (task n ys t) (seen n x.packet (result_in x) (task n xs s)) above after in
          let b = q (task n xs s) above in
          let c = seen_mono (get_or xs t vacant).packet (result_in (get_or xs t vacant)) (seen n (get_or xs s vacant).packet (result_in (get_or xs s vacant)) (task n xs s)) (task n xs t) above before in
          rw h.high (omega arith)
