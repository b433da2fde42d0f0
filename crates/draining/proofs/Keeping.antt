-- Every move, accepted or not, leaves a sound pipeline sound.
use Rattle.std.proofs.Common.{◌≡◌, ℕ, zero, suc, ◌+◌, ◌-◌, ◌<◌, ◌≤◌, Bool, true, false, cond, not, ◌||◌, eqb, ltb, List, length, get_or, set, replicate, is_some, Some, None, Option, sym, refl, ap, ◌∙◌, ⊎_elim, arith, length-set, get_or-set_same}
use Rattle.std.proofs.lemmas.Bool.{or_left, or_right, cases_Bool, ltb-true, and_parts, not-true}
use Rattle.effect.specs.declared.actions.Action.{Action}
use Rattle.effect.specs.declared.actions.Effect.{Effect}
use Rattle.effect.specs.Changes.{halts, registers_after}
use Rattle.stepper.specs.Machine.{World}
use Rattle.fit.specs.Fitting.{placed, All}
use Rattle.moves.specs.declared.kinds.MoveKind.{MoveKind}
use Rattle.moves.specs.declared.kinds.MoveKind.TheVariants.{Fetch, Raise, Lower, Execute, Insert, Read, Retire, Drop}
use Rattle.moves.specs.Decoding.{kind_of}
use Rattle.packets.specs.declared.packets.Packet.{Packet}
use Rattle.packets.specs.declared.stages.Stage.{Stage}
use Rattle.packets.specs.Packets.{may_execute, may_retire}
use Rattle.packets.specs.Entering.{guess_of}
use Rattle.packets.specs.Stages.{staged, vacant, result_in, free}
use Rattle.pipes.specs.declared.answers.MoveRefusal.{MoveRefusal}
use Rattle.pipes.specs.declared.answers.MoveRefusal.TheVariants.{WrongPlace, NothingThere, WrongState}
use Rattle.pipes.specs.declared.state.Pipes.{Pipes}
use Rattle.pipes.specs.Questions.{stage_at, packet_at, slot_at, top, is_open, holds_of, may_rise, asks, ask_retire, asked, refusal_of}
use Rattle.pipes.specs.Moving.{fresh, with_stage, closes, fetched_at, entered, fetched_from, raised, lowered, executed, inserted, read_value, read_into, dropped, leaving_effect, vacated, writing_if, retired_from, accepted, accepted_by, moved_by, moved}
use Rattle.draining.specs.Sound.{fits_in, is_vacant, controls, promised, hopeful, hope, Sound}
use Rattle.draining.proofs.Frames.{hope_at, two_low, two_high, two_other, hope_two, hope_one, at_set}
use Rattle.draining.proofs.Local.{met_fits, raise_hopes, lower_hopes, read_hopes, insert_hopes, insert_fits, execute_hopes, execute_fits, drop-list, closed_hopes, enter_fits, fetched_fits}

pub fresh_sound : (sets : List ℕ) → Sound sets fresh
fresh_sound sets = (refl, refl, λ k l. ap is_vacant (blank k 16), λ k. ap (λ (x : Stage). fits_in sets k x.packet) (blank k 16), refl)
  where
    blank : (k n : ℕ) → get_or (replicate n vacant) k vacant ≡ vacant
    blank k zero = refl
    blank zero (suc n) = refl
    blank (suc k) (suc n) = blank k n

-- the stages: as many, vacant past the top, and every waiting packet fits
abbrev Shape : List ℕ → List Stage → Type 0
Shape sets xs = (length xs ≡ 16) × ((k : ℕ) → length sets ≤ k → is_vacant (get_or xs k vacant) ≡ true) × ((k : ℕ) → fits_in sets k (get_or xs k vacant).packet ≡ true)

shape-set : (sets : List ℕ) (xs : List Stage) (s : ℕ) (x : Stage) → length sets ≤ 16 → s < length sets → fits_in sets s x.packet ≡ true → Shape sets xs → Shape sets (set xs s x)
shape-set sets xs s x n l f h =
    let m : s < length xs = (let e = h.0 in omega arith) in (
      simp length-set h.0,
      at_set (λ k y. length sets ≤ k → is_vacant y ≡ true) xs s x m (λ q. absurd (omega arith)) h.1,
      at_set (λ k y. fits_in sets k y.packet ≡ true) xs s x m f h.2,
    )

or_last : (a b c d : Bool) → (c ≡ true → d ≡ true) → (a || (b || c)) ≡ true → (a || (b || d)) ≡ true
or_last a b c d h e = grind arith

-- one stage replaced, and two
module _ (sets : List ℕ) (P : Pipes) (high : length sets ≤ 16) (sound : Sound sets P) where
  stay : (i : ℕ) (x : Stage) → i < length sets → fits_in sets i x.packet ≡ true → Shape sets (set P.stages i x)
  stay i x l f = shape-set sets P.stages i x high l f (sound.0, sound.2, sound.3)

  one : (i : ℕ) (x : Stage) → i < length sets → fits_in sets i x.packet ≡ true → (hopeful (stage_at P i) ≡ true → hopeful x ≡ true) → Sound sets (with_stage P i x)
  one i x l f h =
      let g = stay i x l f in
      let m : i < length P.stages = (let e = sound.0 in omega arith) in
      (g.0, sound.1, g.1, g.2, or_last P.halted (is_open P.fetch) _ _ (hope_one P.stages i x m h) sound.4)

  two : (i j : ℕ) (x y : Stage) → i < length sets → j < length sets → (i ≡ j → ⊥) → fits_in sets i x.packet ≡ true → fits_in sets j y.packet ≡ true →
      ((hopeful (stage_at P i) || hopeful (stage_at P j)) ≡ true → (hopeful x || hopeful y) ≡ true) → Sound sets (with_stage (with_stage P i x) j y)
  two i j x y l k ne f q h =
      let g = shape-set sets (set P.stages i x) j y high k q (stay i x l f) in
      let m : i < length P.stages = (let e = sound.0 in omega arith) in
      let o : j < length P.stages = (let e = sound.0 in omega arith) in
      let a = two_low P.stages i j x y m ne in
      let b = two_high P.stages i j x y o in
      let t : hope P.stages ≡ true → hope (set (set P.stages i x) j y) ≡ true =
      hope_two P.stages (set (set P.stages i x) j y) i j (two_other P.stages i j x y) (λ z. ap (λ (u : Stage). hopeful u || hopeful (get_or (set (set P.stages i x) j y) j vacant)) a ∙ (ap (λ (u : Stage). hopeful x || hopeful u) b ∙ h z)) in
      (g.0, sound.1, g.1, g.2, or_last P.halted (is_open P.fetch) _ _ t sound.4)

yes : (b : Bool) (f : MoveRefusal) (o : Option MoveRefusal) → asks b f o ≡ None → (b ≡ true) × (o ≡ None)
yes b f o e = (grind arith, grind arith)

placed_right : (n s : ℕ) → ltb 0 s ≡ true → ltb s n ≡ true → (s < n) × (s - 1 < n) × (s ≡ s - 1 → ⊥)
placed_right n s a b = let x = ltb-true 0 s a in let y = ltb-true s n b in (y, omega arith, λ e. omega arith)

registers_stay : (a : Action) (rs : List ℕ) → length (registers_after a rs) ≡ length rs
registers_stay a rs = grind (arith, length-set)

module _ (sets : List ℕ) (P : Pipes) (low : 2 ≤ length sets) (high : length sets ≤ 16) (sound : Sound sets P) where
  at_top : top sets < length sets
  at_top = omega arith

  raise_sound : (s : ℕ) → s + 1 < length sets → not (is_some (packet_at P (s + 1))) ≡ true → holds_of (may_rise sets s) (packet_at P s) ≡ true → Sound sets (raised P s)
  raise_sound s l e q =
      two sets P high sound s (s + 1) _ _ (omega arith) l (λ z. omega arith) refl
      (met_fits sets (s + 1) (packet_at P s) (result_in (stage_at P (s + 1))) (risen (packet_at P s) q))
      (raise_hopes (stage_at P s) (stage_at P (s + 1)) e)
    where
      risen : (o : Option Packet) → holds_of (may_rise sets s) o ≡ true → fits_in sets (s + 1) o ≡ true
      risen None q = refl
      risen (Some p) q = q

  lower_sound : (s : ℕ) → ltb 0 s ≡ true → ltb s (length sets) ≡ true → free (slot_at P (s - 1)) ≡ true → Sound sets (lowered P s)
  lower_sound s a b e =
      let l = placed_right (length sets) s a b in
      two sets P high sound s (s - 1) _ _ l.0 l.1 l.2 (sound.3 s)
      (met_fits sets (s - 1) (packet_at P (s - 1)) (result_in (stage_at P s)) (sound.3 (s - 1)))
      (lower_hopes (stage_at P (s - 1)) (stage_at P s) e)

  execute_sound : (W : World) (words : List ℕ) (s : ℕ) → s < length sets → holds_of may_execute (packet_at P s) ≡ true → Sound sets (executed W words P s)
  execute_sound W words s l e =
      let x = stage_at P s in
      one sets P high sound s _ l (execute_fits W.table words W.handler x sets s) (execute_hopes W.table words W.handler x e)

  insert_sound : (s : ℕ) → s < length sets → free (slot_at P s) ≡ true → Sound sets (inserted P s)
  insert_sound s l e = one sets P high sound s _ l (insert_fits sets s (stage_at P s) (sound.3 s)) (insert_hopes (stage_at P s) e)

  read_sound : (r : ℕ) → free (slot_at P (top sets)) ≡ true → Sound sets (read_into sets P r)
  read_sound r e =
      let t = top sets in
      one sets P high sound t _ at_top (met_fits sets t (packet_at P t) (Some (read_value P r)) (sound.3 t)) (read_hopes (stage_at P t) (read_value P r) e)

  drop_sound : P.halted ≡ false → Sound sets (dropped P)
  drop_sound h =
      let g = stay sets P high sound 0 (staged (packet_at P 0) None) (omega arith) (sound.3 0) in
      let z : (is_open P.fetch || hope P.stages) ≡ true = ap (λ (b : Bool). b || (is_open P.fetch || hope P.stages)) (sym h) ∙ sound.4 in
      (g.0, sound.1, g.1, g.2, or_right P.halted _ (drop-list P.stages P.fetch z))

  fetch_sound : (W : World) (words : List ℕ) → All (placed sets) W.program → (f : Option ℕ) → Sound sets (fetched_from W words P f)
  fetch_sound W words fit None = sound
  fetch_sound W words fit (Some place) =
      let f = fetched_at W place in
      let r = result_in (stage_at P 0) in
      let first : 0 < length P.stages = (let q = sound.0 in omega arith) in
      let g = stay sets P high sound 0 _ (omega arith) (enter_fits W.table words W.handler sets f r (fetched_fits sets W.program place fit)) in
      let z = closes-or (closes f.instruction) (guess_of f) (hope (entered W words P f).stages)
      (λ e. hope_at (entered W words P f).stages 0 (ap hopeful (get_or-set_same P.stages 0 _ vacant first) ∙ closed_hopes W.table words W.handler f r e)) in
      (g.0, sound.1, g.1, g.2, or_right P.halted _ z)
    where
      closes-or : (c : Bool) (guess : ℕ) (h : Bool) → (c ≡ true → h ≡ true) → (is_open (cond c None (Some guess)) || h) ≡ true
      closes-or c guess h q = grind arith

leaves_none : (p : Packet) → leaving_effect p ≡ None → promised (Some p) ≡ false
leaves_none p e = grind arith

leaves_some : (p : Packet) (e : Effect) → leaving_effect p ≡ Some e → may_retire p ≡ true → halts e.action ≡ false → promised (Some p) ≡ false
leaves_some p e q m h = grind arith

unpromised : (x : Stage) → promised x.packet ≡ false → hopeful x ≡ true → hopeful (staged None (result_in x)) ≡ true
unpromised x e h = let a = hope_rest (promised x.packet) (controls (result_in x)) e in a h
  where
    hope_rest : (a b : Bool) → a ≡ false → (a || b) ≡ true → b ≡ true
    hope_rest a b e h = grind arith

module _ (sets : List ℕ) (P : Pipes) (low : 2 ≤ length sets) (high : length sets ≤ 16) (sound : Sound sets P) (words : List ℕ) where
  empties : promised (packet_at P (top sets)) ≡ false → Sound sets (vacated sets P)
  empties e = one sets P high sound (top sets) _ (at_top sets P low high sound) refl (unpromised (stage_at P (top sets)) e)

  written : (place : ℕ) (e : Effect) → (halts e.action ≡ false → promised (packet_at P (top sets)) ≡ false) → Sound sets (writing_if (vacated sets P) words place (Some e)).pipes
  written place e h =
      let g = stay sets P high sound (top sets) (staged None (result_in (stage_at P (top sets)))) (at_top sets P low high sound) refl in (
        g.0,
        registers_stay e.action P.registers ∙ sound.1,
        g.1,
        g.2,
        ⊎_elim
            (λ t. or_left _ _ (or_left (halts e.action) P.halted t))
            (λ t. grouped (halts e.action) P.halted _ (empties (h t)).4)
            (cases_Bool (halts e.action)),
      )
    where
      grouped : (a b c : Bool) → (b || c) ≡ true → ((a || b) || c) ≡ true
      grouped a b c h = grind arith

  left_by : (p : Packet) → packet_at P (top sets) ≡ Some p → may_retire p ≡ true → (e : Option Effect) → leaving_effect p ≡ e → Sound sets (writing_if (vacated sets P) words p.fetched.place e).pipes
  left_by p q m None h = empties (ap promised q ∙ leaves_none p h)
  left_by p q m (Some e) h = written p.fetched.place e (λ t. ap promised q ∙ leaves_some p e h m t)

  retire_sound : (o : Option Packet) → packet_at P (top sets) ≡ o → holds_of may_retire o ≡ true → Sound sets (retired_from (vacated sets P) words o).pipes
  retire_sound None q m = empties (ap promised q)
  retire_sound (Some p) q m = left_by p q m (leaving_effect p) refl

module _ (W : World) (sets : List ℕ) (P : Pipes) (words : List ℕ) (fit : All (placed sets) W.program) (low : 2 ≤ length sets) (high : length sets ≤ 16) (sound : Sound sets P) where
  accepted_sound : (kind : MoveKind) (place : ℕ) → P.halted ≡ false → asked sets P kind place ≡ None → Sound sets (accepted W sets P words kind place).pipes
  accepted_sound Fetch s h e = fetch_sound sets P low high sound W words fit P.fetch
  accepted_sound Raise s h e =
      let a = yes _ _ _ e in
      let b = yes _ _ _ a.1 in
      let c = yes _ _ _ b.1 in
      raise_sound sets P low high sound s (ltb-true (s + 1) (length sets) a.0) c.0 (yes _ _ _ c.1).0
  accepted_sound Lower s h e =
      let a = yes _ _ _ e in
      let b = and_parts (ltb 0 s) (ltb s (length sets)) a.0 in
      lower_sound sets P low high sound s b.0 b.1 (yes _ _ _ (yes _ _ _ a.1).1).0
  accepted_sound Execute s h e =
      let a = yes _ _ _ e in
      execute_sound sets P low high sound W words s (ltb-true s (length sets) a.0) (yes _ _ _ (yes _ _ _ a.1).1).0
  accepted_sound Insert s h e =
      let a = yes _ _ _ e in
      insert_sound sets P low high sound s (ltb-true s (length sets) a.0) (yes _ _ _ (yes _ _ _ a.1).1).0
  accepted_sound Read s h e = read_sound sets P low high sound s (yes _ _ _ (yes _ _ _ e).1).0
  accepted_sound Retire s h e =
      let o = packet_at P (top sets) in
      let a = yes (eqb s 0) WrongPlace (ask_retire (stage_at P (top sets))) e in
      let b = yes (is_some o) NothingThere (asks (holds_of may_retire o) WrongState None) a.1 in
      retire_sound sets P low high sound words o refl (yes (holds_of may_retire o) WrongState None b.1).0
  accepted_sound Drop s h e = drop_sound sets P low high sound h

  accepted_by_sound : (k : Option MoveKind) (kind place : ℕ) → kind_of kind ≡ k → refusal_of sets P kind place ≡ None → Sound sets (accepted_by W sets P words k place).pipes
  accepted_by_sound None kind place q e = sound
  accepted_by_sound (Some k) kind place q e =
      let a = yes (not P.halted) _ _ e in
      accepted_sound k place (not-true P.halted a.0) (rw q at a.1)

  moved_by_sound : (kind place : ℕ) (o : Option MoveRefusal) → refusal_of sets P kind place ≡ o → Sound sets (moved_by o P words (accepted_by W sets P words (kind_of kind) place)).pipes
  moved_by_sound kind place None e = accepted_by_sound (kind_of kind) kind place refl e
  moved_by_sound kind place (Some f) e = sound

  pub moved_sound : (kind place : ℕ) → Sound sets (moved W sets P words kind place).pipes
  moved_sound kind place = moved_by_sound kind place (refusal_of sets P kind place) refl
