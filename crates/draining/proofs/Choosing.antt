-- What the policy chooses is accepted, and brings the drain nearer to its end.
use Rattle.std.proofs.Common.{◌≡◌, ℕ, zero, suc, ◌+◌, ◌-◌, ◌<◌, ◌≤◌, Bool, true, false, cond, not, ◌||◌, eqb, List, length, is_some, Some, None, Option, sym, refl, ap, ◌∙◌, subst, ⊎_elim, arith}
use Rattle.std.proofs.lemmas.Bool.{cases_Bool, cases_lt, lt-ltb, eqb-true, eqb-false, and_from, or_left, or_right}
use Rattle.effect.specs.declared.actions.Effect.{Effect}
use Rattle.instruction.specs.declared.instructions.Instruction.{Instruction}
use Rattle.instruction.specs.Operations.{operation_of}
use Rattle.stepper.specs.Machine.{World}
use Rattle.moves.specs.declared.kinds.Move.{Move}
use Rattle.moves.specs.declared.kinds.MoveKind.TheVariants.{Fetch, Raise, Lower, Execute, Insert, Read, Retire, Drop}
use Rattle.packets.specs.declared.bindings.Source.{Source}
use Rattle.packets.specs.declared.bindings.Source.TheVariants.{Absent, Literal, Bound}
use Rattle.packets.specs.declared.packets.Packet.{Packet}
use Rattle.packets.specs.declared.packets.PacketState.{PacketState}
use Rattle.packets.specs.declared.packets.PacketState.TheVariants.{Waiting, Executed}
use Rattle.packets.specs.declared.packets.Standing.{Standing}
use Rattle.packets.specs.declared.packets.Standing.TheVariants.{Live, Killed}
use Rattle.packets.specs.declared.stages.Stage.{Stage}
use Rattle.packets.specs.Packets.{is_live, ready, may_execute, may_insert, may_retire, may_pass}
use Rattle.packets.specs.Stages.{vacant, result_in, free}
use Rattle.pipes.specs.declared.answers.MoveRefusal.{MoveRefusal}
use Rattle.pipes.specs.declared.answers.MoveRefusal.TheVariants.{WrongPlace, NothingThere, WrongState}
use Rattle.pipes.specs.declared.state.Pipes.{Pipes}
use Rattle.pipes.specs.Questions.{stage_at, packet_at, slot_at, top, is_open, holds_of, able_for, some_able, may_rise, asks, ask_retire, asked}
use Rattle.pipes.specs.Moving.{Left, silently, accepted, leaving_effect, retired_from, vacated}
use Rattle.draining.specs.Sound.{fits_in, is_vacant, hopeful, hope, Sound}
use Rattle.draining.specs.Policy.{move_to, lowest, highest, awaits, first_of, missing, onward, wants_word, wants_live, wants_by, wants_in, upward, downward, chosen_by, chosen}
use Rattle.draining.specs.Measure.{μ}
use Rattle.draining.proofs.Ables.{none_past, able_last}
use Rattle.draining.proofs.Frames.{hope_found}
use Rattle.draining.proofs.Nearing.{raise_falls, lower_falls, read_falls, execute_falls, insert_falls, dead_falls, packet_left, drop_falls, fetch_falls}
use Rattle.draining.proofs.Scans.{Dry, Bare, lowest_none, lowest_some, highest_none, highest_some}

-- a move is accepted, and either ends the drain or brings it nearer
pub record Good (W : World) (sets : List ℕ) (P : Pipes) (words : List ℕ) (m : Move) : Type 0 where
  pub asks_well : asked sets P m.kind m.place ≡ None
  pub nears : (accepted W sets P words m.kind m.place).retirement ≡ None → μ sets (accepted W sets P words m.kind m.place).pipes < μ sets P
  pub runs_on : (accepted W sets P words m.kind m.place).retirement ≡ None → (accepted W sets P words m.kind m.place).pipes.halted ≡ P.halted
  pub some_left : 0 < μ sets P

agree : (b : Bool) (f : MoveRefusal) (o : Option MoveRefusal) → b ≡ true → o ≡ None → asks b f o ≡ None
agree b f o e q = rw (e, q)

full : {A : Type 0} (o : Option A) → is_some o ≡ true → not (not (is_some o)) ≡ true
full o e = grind arith

empty : {A : Type 0} (o : Option A) → o ≡ None → not (is_some o) ≡ true
empty o e = rw e

vacant_is : (x : Stage) → is_vacant x ≡ true → x ≡ vacant
vacant_is x e = grind arith

hollow : (x : Stage) → x.packet ≡ None → result_in x ≡ None → x ≡ vacant
hollow x a b = grind arith

module _ (W : World) (sets : List ℕ) (P : Pipes) (words : List ℕ) (low : 2 ≤ length sets) (high : length sets ≤ 16) (sound : Sound sets P) where
  long : length sets ≤ length P.stages
  long = let e = sound.0 in omega arith

  drop_good : is_some (result_in (stage_at P 0)) ≡ true → Good W sets P words (move_to Drop 0)
  drop_good e =
      let f = drop_falls sets P (omega arith) long e in
      record { asks_well = agree _ _ _ (full (result_in (stage_at P 0)) e) refl; nears = λ _. f; runs_on = λ _. refl; some_left = omega arith }

  lower_good : (s : ℕ) → 0 < s → s < length sets → is_some (result_in (stage_at P s)) ≡ true → result_in (stage_at P (s - 1)) ≡ None → Good W sets P words (move_to Lower s)
  lower_good s z l e q =
      let a = full (result_in (stage_at P s)) e in
      let b = empty (result_in (stage_at P (s - 1))) q in
      let f = lower_falls sets P long s z l a b in
      record {
        asks_well = agree _ _ _ (and_from _ _ (lt-ltb 0 s z) (lt-ltb s (length sets) l)) (agree _ _ _ a (agree _ _ _ b refl));
        nears = λ _. f;
        runs_on = λ _. refl;
        some_left = omega arith;
      }

  hopeless : ((k : ℕ) → stage_at P k ≡ vacant) → hope P.stages ≡ true → ⊥
  hopeless e q = let h = hope_found P.stages q in let a = sym (ap hopeful (e h.0)) ∙ h.1 in let z : ◌≡◌ {A = ℕ} 0 1 = cc in omega arith

  fetch_good : P.halted ≡ false → ((i : ℕ) → i < length sets → stage_at P i ≡ vacant) → Good W sets P words (move_to Fetch 0)
  fetch_good halt e = by P.fetch refl
    where
      all : (k : ℕ) → stage_at P k ≡ vacant
      all k = ⊎_elim (e k) (λ l. vacant_is (stage_at P k) (sound.2 k l)) (cases_lt k (length sets))

      bottom : not (is_some (packet_at P 0)) ≡ true
      bottom = empty (packet_at P 0) (ap (λ (x : Stage). x.packet) (all 0))

      stuck : (a b c : Bool) → a ≡ false → b ≡ false → (a || (b || c)) ≡ true → c ≡ true
      stuck a b c p q h = grind arith

      by : (f : Option ℕ) → P.fetch ≡ f → Good W sets P words (move_to Fetch 0)
      by None q = absurd (hopeless all (stuck P.halted (is_open P.fetch) (hope P.stages) halt (ap is_open q) sound.4))
      by (Some place) q =
          let f = fetch_falls sets P (omega arith) long W words place e in
          record {
            asks_well = agree _ _ _ (ap is_open q) (agree _ _ _ bottom refl);
            nears = λ _. rw q f;
            runs_on = λ _. rw q;
            some_left = omega arith;
          }

ended : (Q : Pipes) (words : List ℕ) (p : Packet) (f : Effect) → leaving_effect p ≡ Some f → (retired_from Q words (Some p)).retirement ≡ None → ⊥
ended Q words p f q z = let a : ◌≡◌ {A = ℕ} 0 1 = (let b = rw q at z in cc) in omega arith

quiet : (Q : Pipes) (words : List ℕ) (p : Packet) → leaving_effect p ≡ None → retired_from Q words (Some p) ≡ silently Q words
quiet Q words p q = rw q

dead : (p : Packet) → leaving_effect p ≡ None → may_retire p ≡ true → is_live p.standing ≡ false
dead p q m = grind arith

awaits_below : (s : Source) (r : ℕ) → awaits s ≡ Some r → r < 16
awaits_below Absent r e = absurd (let z : ◌≡◌ {A = ℕ} 0 1 = cc in omega arith)
awaits_below (Literal w) r e = absurd (let z : ◌≡◌ {A = ℕ} 0 1 = cc in omega arith)
awaits_below (Bound b) r e = by b.valid e
  where
    by : (v : Bool) → cond v None (Some b.register.number) ≡ Some r → r < 16
    by true e = absurd (let z : ◌≡◌ {A = ℕ} 0 1 = cc in omega arith)
    by false e = let z : b.register.number ≡ r = cc in let l = b.register.below in omega arith

missing_below : (p : Packet) (r : ℕ) → missing p ≡ Some r → r < 16
missing_below p r e = by (awaits p.first) refl e
  where
    by : (o : Option ℕ) → awaits p.first ≡ o → first_of o (awaits p.second) ≡ Some r → r < 16
    by (Some q) a e = awaits_below p.first r (a ∙ e)
    by None a e = awaits_below p.second r e

has_all : (p : Packet) → missing p ≡ None → ready p ≡ true
has_all p e = grind arith

some_past : (sets : List ℕ) (s : ℕ) (o : Option Instruction) → some_able sets s o ≡ true → s < length sets
some_past sets s None e = absurd (let z : ◌≡◌ {A = ℕ} 0 1 = cc in omega arith)
some_past sets s (Some i) e =
    ⊎_elim (λ l. l) (λ l. absurd (let a = none_past sets s (operation_of i) (length sets) l in let z : ◌≡◌ {A = ℕ} 0 1 = cc in omega arith)) (cases_lt s (length sets))

able_here : (sets : List ℕ) (s : ℕ) (o : Option Instruction) → some_able sets s o ≡ true → some_able sets (s + 1) o ≡ false → able_for sets s o ≡ true
able_here sets s None a b = a
able_here sets s (Some i) a b = able_last sets s (operation_of i) (length sets) a b

waits_fit : (b : Bool) (p : Packet) → may_execute p ≡ true → (may_pass p || b) ≡ true → b ≡ true
waits_fit b p m e = grind arith

-- a packet is the highest, and no result is in flight
module _ (W : World) (sets : List ℕ) (P : Pipes) (words : List ℕ) (low : 2 ≤ length sets) (high : length sets ≤ 16) (sound : Sound sets P)
    (h : ℕ) (p : Packet) (l : h < length sets) (e : packet_at P h ≡ Some p) (dry : Dry P.stages (length sets)) (bare : Bare P.stages (suc h) (length sets)) where
  wide : length sets ≤ length P.stages
  wide = let q = sound.0 in omega arith

  above : (i : ℕ) → h < i → i < length sets → stage_at P i ≡ vacant
  above i a b = hollow (stage_at P i) (bare i a b) (dry i b)

  here : is_some (packet_at P h) ≡ true
  here = ap is_some e

  raise_good : h + 1 < length sets → may_rise sets h p ≡ true → Good W sets P words (move_to Raise h)
  raise_good k q =
      let b = empty (packet_at P (h + 1)) (ap (λ (x : Stage). x.packet) (above (h + 1) (omega arith) k)) in
      let f = raise_falls sets P wide h k here b in
      record {
        asks_well = agree _ _ _ (lt-ltb (h + 1) (length sets) k) (agree _ _ _ here (agree _ _ _ b (agree _ _ _ (ap (holds_of (may_rise sets h)) e ∙ q) refl)));
        nears = λ _. f;
        runs_on = λ _. refl;
        some_left = omega arith;
      }

  retire_good : h ≡ top sets → may_retire p ≡ true → Good W sets P words (move_to Retire 0)
  retire_good z m = by (leaving_effect p) refl
    where
      q : packet_at P (top sets) ≡ Some p
      q = ap (packet_at P) (sym z) ∙ e

      ok : asked sets P Retire 0 ≡ None
      ok =
          agree true WrongPlace (ask_retire (stage_at P (top sets))) refl
          (agree (is_some (packet_at P (top sets))) NothingThere (asks (holds_of may_retire (packet_at P (top sets))) WrongState None) (ap is_some q)
          (agree (holds_of may_retire (packet_at P (top sets))) WrongState None (ap (holds_of may_retire) q ∙ m) refl))

      left : 0 < μ sets P
      left = packet_left sets P wide h p l e above

      by : (f : Option Effect) → leaving_effect p ≡ f → Good W sets P words (move_to Retire 0)
      by None d =
          let s : accepted W sets P words Retire 0 ≡ silently (vacated sets P) words = ap (retired_from (vacated sets P) words) q ∙ quiet (vacated sets P) words p d in
          let f = dead_falls sets P wide h p l e above z (dead p d m) in
          record { asks_well = ok; nears = λ _. subst (λ x. μ sets x.pipes < μ sets P) (sym s) f; runs_on = λ _. ap (λ (x : Left). x.pipes.halted) s; some_left = left }
      by (Some f) d =
          let s : accepted W sets P words Retire 0 ≡ retired_from (vacated sets P) words (Some p) = ap (retired_from (vacated sets P) words) q in
          let no : (accepted W sets P words Retire 0).retirement ≡ None → ⊥ = λ u. ended (vacated sets P) words p f d (ap (λ (x : Left). x.retirement) (sym s) ∙ u) in
          record { asks_well = ok; nears = λ u. absurd (no u); runs_on = λ u. absurd (no u); some_left = left }

  onward_good : may_pass p ≡ true → may_retire p ≡ true → Good W sets P words (onward sets h)
  onward_good a b =
      ⊎_elim
      (λ t. let k = eqb-true (h + 1) (length sets) t in rw t (retire_good (omega arith) b))
      (λ t. let k = eqb-false (h + 1) (length sets) t in rw t (raise_good (omega arith) (or_left _ _ a)))
      (cases_Bool (eqb (h + 1) (length sets)))

  free_at : (i : ℕ) → i < length sets → free (slot_at P i) ≡ true
  free_at i k = empty (result_in (stage_at P i)) (dry i k)

  read_good : (r : ℕ) → may_execute p ≡ true → missing p ≡ Some r → Good W sets P words (move_to Read r)
  read_good r m q =
      let f = read_falls sets P wide h p l e above r m q in
      record { asks_well = agree _ _ _ (lt-ltb r 16 (missing_below p r q)) (agree _ _ _ (free_at (top sets) (omega arith)) refl); nears = λ _. f; runs_on = λ _. refl; some_left = omega arith }

  execute_good : may_execute p ≡ true → missing p ≡ None → able_for sets h p.fetched.instruction ≡ true → Good W sets P words (move_to Execute h)
  execute_good m q a =
      let f = execute_falls sets P wide h p l e above W words m in
      record {
        asks_well = agree _ _ _ (lt-ltb h (length sets) l) (agree _ _ _ here (agree _ _ _ (ap (holds_of may_execute) e ∙ m) (agree _ _ _ (ap (holds_of ready) e ∙ has_all p q)
            (agree _ _ _ (ap (holds_of (λ u. able_for sets h u.fetched.instruction)) e ∙ a) refl))));
        nears = λ _. f;
        runs_on = λ _. refl;
        some_left = omega arith;
      }

  insert_good : may_insert p ≡ true → Good W sets P words (move_to Insert h)
  insert_good m =
      let f = insert_falls sets P wide h p l e above (free_at h l) m in
      record {
        asks_well = agree _ _ _ (lt-ltb h (length sets) l) (agree _ _ _ here (agree _ _ _ (free_at h l) (agree _ _ _ (ap (holds_of may_insert) e ∙ m) refl)));
        nears = λ _. f;
        runs_on = λ _. refl;
        some_left = omega arith;
      }

  waits_good : may_execute p ≡ true → (o : Option ℕ) → missing p ≡ o → (b : Bool) → some_able sets (h + 1) p.fetched.instruction ≡ b → Good W sets P words (wants_word o b h)
  waits_good m (Some r) q b z = read_good r m q
  waits_good m None q true z = raise_good (some_past sets (h + 1) p.fetched.instruction z) (or_right _ _ z)
  waits_good m None q false z =
      let fit : fits_in sets h (Some p) ≡ true = ap (fits_in sets h) (sym e) ∙ sound.3 h in
      execute_good m q (able_here sets h p.fetched.instruction (waits_fit _ p m fit) z)

  live_good : is_live p.standing ≡ true → (s : PacketState) → p.state ≡ s → Good W sets P words (wants_live sets h p s)
  live_good a Waiting q = waits_good (rw (a, q)) (missing p) refl _ refl
  live_good a (Executed f (Some r)) q = insert_good (rw (a, q))
  live_good a (Executed f None) q = onward_good (rw (a, q)) (rw (a, q))

  wants_good : (s : Standing) → p.standing ≡ s → Good W sets P words (wants_by sets h p s)
  wants_good Killed q = onward_good (rw q) (rw q)
  wants_good Live q = live_good (ap is_live q) p.state refl

-- the choice
module _ (W : World) (sets : List ℕ) (P : Pipes) (words : List ℕ) (low : 2 ≤ length sets) (high : length sets ≤ 16) (sound : Sound sets P) (runs : P.halted ≡ false) where
  downward_good : (k : ℕ) → lowest P.stages (length sets) ≡ Some k → Good W sets P words (downward k)
  downward_good zero q = drop_good W sets P words low high sound (lowest_some P.stages (length sets) 0 q).1
  downward_good (suc k) q =
      let a = lowest_some P.stages (length sets) (suc k) q in
      lower_good W sets P words low high sound (suc k) (omega arith) a.0 a.1 (a.2 (suc k - 1) (omega arith))

  packet_good : Dry P.stages (length sets) → (h : ℕ) → highest P.stages (length sets) ≡ Some h → (o : Option Packet) → packet_at P h ≡ o → Good W sets P words (wants_in sets h o)
  packet_good dry h q None e = absurd (let a = (highest_some P.stages (length sets) h q).1 in let b = ap is_some e in let z : ◌≡◌ {A = ℕ} 0 1 = cc in omega arith)
  packet_good dry h q (Some p) e =
      let a = highest_some P.stages (length sets) h q in
      wants_good W sets P words low high sound h p a.0 e dry a.2 p.standing refl

  upward_good : Dry P.stages (length sets) → (o : Option ℕ) → highest P.stages (length sets) ≡ o → Good W sets P words (upward sets P o)
  upward_good dry None q =
      let bare = highest_none P.stages (length sets) q in
      fetch_good W sets P words low high sound runs (λ i l. hollow (stage_at P i) (bare i (omega arith) l) (dry i l))
  upward_good dry (Some h) q = packet_good dry h q (packet_at P h) refl

  by_good : (o : Option ℕ) → lowest P.stages (length sets) ≡ o → Good W sets P words (chosen_by sets P o (highest P.stages (length sets)))
  by_good (Some k) q = downward_good k q
  by_good None q = upward_good (lowest_none P.stages (length sets) q) _ refl

  pub chosen_good : Good W sets P words (chosen sets P)
  chosen_good = by_good (lowest P.stages (length sets)) refl
