-- Each move on its one or two stages, below any view.
use Rattle.std.proofs.Common.{◌≡◌, ℕ, true, false, ◌⊎◌, List, length, get_or, Some, None, Option, refl, ap, subst, arith}
use Rattle.std.proofs.lemmas.Bool.Decides.{nat_tests}
use Rattle.instruction.specs.declared.numbers.Register.{Register}
use Rattle.effect.specs.declared.actions.Effect.{Effect}
use Rattle.effect.specs.Changes.{halts}
use Rattle.effect.specs.Effects.{effect_of}
use Rattle.stepper.specs.Machine.{World, State, effect_at, found_at, sources_of}
use Rattle.packets.specs.declared.bindings.Source.{Source}
use Rattle.packets.specs.declared.packets.Packet.{Packet}
use Rattle.packets.specs.declared.packets.PacketState.{PacketState}
use Rattle.packets.specs.declared.packets.PacketState.TheVariants.{Waiting, Executed}
use Rattle.packets.specs.declared.packets.Standing.{Standing}
use Rattle.packets.specs.declared.packets.Standing.TheVariants.{Live, Killed}
use Rattle.packets.specs.declared.results.PipeResult.{PipeResult}
use Rattle.packets.specs.declared.results.PipeResult.TheVariants as result
use Rattle.packets.specs.declared.stages.Stage.{Stage}
use Rattle.packets.specs.Packets.{valid, word_in, ready, sources_in, may_execute, may_insert, paid}
use Rattle.packets.specs.Meeting.{garnered, garnering, passed}
use Rattle.packets.specs.Stages.{staged, result_in, met, worked, executing, inserting}
use Rattle.pipes.specs.Moving.{fetched_at}
use Rattle.agreement.specs.Walk.{View, on, lost, advanced, after_result, after_live, after_packet, after, Sourced, ResultOk, StateAt, LiveAt, LiveOk, PacketOk, Ok}
use Rattle.agreement.proofs.Facts.{touches, memory_aside, behind_is, registers_wide, spared, owed_right}

abbrev pub Wide : View → Type 0
Wide lost = Unit {0}
Wide (on S) = length S.registers ≡ 16

abbrev pub MemoryIs : List ℕ → View → Type 0
MemoryIs words lost = Unit {0}
MemoryIs words (on S) = words ≡ S.words

module _ (W : World) where
  pub packet_wide : (v : View) (p : Option Packet) → Wide v → Wide (after_packet W v p)
  packet_wide v p h = grind (arith, registers_wide)

  pub after_wide : (v : View) (x : Stage) → Wide v → Wide (after W v x)
  after_wide v x h = grind (arith, packet_wide)

  -- a packet and a result that pass each other change no view below both
  pub cross_view : (v : View) (p : Option Packet) (r : Option PipeResult) → after W v (met p r) ≡ after_packet W (after_result v r) p
  cross_view v p r = grind arith

  garnered_right : (registers : List ℕ) (word : ℕ) (s : Source) (register : Register) (w : ℕ) → w ≡ get_or registers register.number 0 → Sourced registers word s →
      Sourced registers word (garnered register w s)
  garnered_right registers word s register w h k = grind (arith, nat_tests)

  garnering_right : (S : State) (p : Packet) (register : Register) (w : ℕ) → w ≡ get_or S.registers register.number 0 → LiveAt W S p → LiveAt W S (garnering register w p)
  garnering_right S p register w h k =
      record {
        fetched = k.fetched;
        guess = k.guess;
        first = garnered_right _ _ p.first register w h k.first;
        second = garnered_right _ _ p.second register w h k.second;
        state = k.state;
      }

  -- the value that goes on below a live packet is right there
  waiting_passes : (S : State) (p : Packet) (register : Register) (w : ℕ) → length S.registers ≡ 16 → w ≡ get_or S.registers register.number 0 →
      p.fetched ≡ fetched_at W S.place → p.state ≡ Waiting → ResultOk (after_live W (on S) p) (passed p register w)
  waiting_passes S p register w z h k e = grind (arith, spared, behind_is)

  executed_passes : (S : State) (p : Packet) (register : Register) (w : ℕ) (effect : Effect) (owed : Option PipeResult) → length S.registers ≡ 16 →
      w ≡ get_or S.registers register.number 0 → effect ≡ effect_at W S → p.state ≡ Executed effect owed → ResultOk (after_live W (on S) p) (passed p register w)
  executed_passes S p register w effect owed z h k e = grind (arith, behind_is)

  passed_ok : (S : State) (p : Packet) (register : Register) (w : ℕ) → length S.registers ≡ 16 → w ≡ get_or S.registers register.number 0 → LiveAt W S p →
      ResultOk (after_live W (on S) p) (passed p register w)
  passed_ok S p register w z h k = passed-by p.state refl k.state
    where
      passed-by : (state : PacketState) → p.state ≡ state → StateAt W S state → ResultOk (after_live W (on S) p) (passed p register w)
      passed-by Waiting e t = waiting_passes S p register w z h k.fetched e
      passed-by (Executed effect owed) e t = executed_passes S p register w effect owed z h t.0 e

  none_ok : (v : View) → ResultOk v None
  none_ok lost = tt
  none_ok (on S) = tt

  -- a meeting
  cross_live : (v : View) (p : Packet) (r : PipeResult) → Wide v → p.standing ≡ Live → ResultOk v (Some r) → PacketOk W (after_result v (Some r)) (Some p) →
      Ok W v (met (Some p) (Some r))
  cross_live v p (result.WrongBranch target) z e h k = grind arith
  cross_live v p (result.Trap handler) z e h k = grind arith
  cross_live lost p (result.Value register w) z e h k = grind arith
  cross_live (on S) p (result.Value register w) z e h k =
      let live : LiveAt W S p = grind arith in
      let g = garnering_right S p register w h live in
      let q = passed_ok S p register w z h live in
      grind arith

  pub cross_ok : (v : View) (p : Option Packet) (r : Option PipeResult) → Wide v → ResultOk v r → PacketOk W (after_result v r) p → Ok W v (met p r)
  cross_ok v None r z h k = (tt, h)
  cross_ok v (Some p) None z h k = (k, none_ok _)
  cross_ok v (Some p) (Some r) z h k = cross-standing p.standing refl
    where
      cross-standing : (standing : Standing) → p.standing ≡ standing → Ok W v (met (Some p) (Some r))
      cross-standing Killed e = grind arith
      cross-standing Live e = cross_live v p r z e h k

  -- one stage below v, and another in its place below v'
  pub record Same (v v' : View) (x x' : Stage) : Type 0 where
    pub ok : Ok W v' x'
    pub view : after W v' x' ≡ after W v x

  -- two stages, x below y, and two others in their places
  pub record Same2 (v : View) (x y x' y' : Stage) : Type 0 where
    pub ok_high : Ok W v y'
    pub ok_low : Ok W (after W v y') x'
    pub view : after W (after W v y') x' ≡ after W (after W v y) x

  pub raise_same : (v : View) (x y : Stage) → Wide v → y.packet ≡ None → Ok W v y → Ok W (after W v y) x →
      Same2 v x y (staged None (result_in x)) (met x.packet (result_in y))
  raise_same v x y z e h k =
      let met-view = cross_view v x.packet (result_in y) in
      record {
        ok_high = cross_ok v x.packet (result_in y) z (rw e at h.1) (rw e at k.0);
        ok_low = (tt, rw met-view (rw e at k.1));
        view = rw e (ap (λ u. after_result u (result_in x)) met-view);
      }

  pub lower_same : (v : View) (x y : Stage) → Wide v → result_in x ≡ None → Ok W v y → Ok W (after W v y) x →
      Same2 v x y (met x.packet (result_in y)) (staged y.packet None)
  lower_same v x y z e h k =
      let u = after_packet W v y.packet in
      record {
        ok_high = (h.0, none_ok u);
        ok_low = cross_ok u x.packet (result_in y) (packet_wide v y.packet z) h.1 k.0;
        view = rw e (cross_view u x.packet (result_in y));
      }

  -- INSERT
  insert_live : (S : State) (p : Packet) (effect : Effect) (owed : Option PipeResult) → p.state ≡ Executed effect owed → LiveAt W S p →
      LiveAt W S (paid p) × ResultOk (after_live W (on S) (paid p)) owed
  insert_live S p effect owed e k = grind arith

  insert_view : (v : View) (p : Packet) (effect : Effect) (owed : Option PipeResult) → p.state ≡ Executed effect owed →
      after_result (after_live W v (paid p)) owed ≡ after_live W v p
  insert_view v p effect owed e = grind arith

  -- a packet that is ready has the words of the state
  source_word : (registers : List ℕ) (word : ℕ) (s : Source) → Sourced registers word s → valid s ≡ true → word_in s ≡ word
  source_word registers word s h k = grind arith

  sources_are : (S : State) (p : Packet) → LiveAt W S p → ready p ≡ true → sources_in p ≡ sources_of S.registers (found_at W S)
  sources_are S p k r = grind (arith, source_word)

  effect_is : (S : State) (p : Packet) (words : List ℕ) → LiveAt W S p → ready p ≡ true → (touches p.fetched.instruction ≡ false) ⊎ (words ≡ S.words) →
      effect_of W.table words W.handler p.fetched (sources_in p) ≡ effect_at W S
  effect_is S p words k r m = grind (arith, sources_are, memory_aside)

  worked_live : (S : State) (p : Packet) (words : List ℕ) → length S.registers ≡ 16 → LiveAt W S p → ready p ≡ true →
      (touches p.fetched.instruction ≡ false) ⊎ (words ≡ S.words) → LiveAt W S (worked W.table words W.handler p)
  worked_live S p words z k r m =
      let e = effect_is S p words k r m in
      record {
        fetched = k.fetched;
        guess = k.guess;
        first = k.first;
        second = k.second;
        state = (e, rw e (owed_right (effect_at W S) S p.guess z));
      }

  worked_view : (S : State) (p : Packet) (words : List ℕ) → p.state ≡ Waiting → effect_of W.table words W.handler p.fetched (sources_in p) ≡ effect_at W S →
      after_live W (on S) (worked W.table words W.handler p) ≡ after_live W (on S) p
  worked_view S p words e q = grind arith

  -- a live packet in the place of another, which leaves the same view
  live_same : (v : View) (x : Stage) (p p' : Packet) → x.packet ≡ Some p → p.standing ≡ Live → p'.standing ≡ Live →
      LiveOk W v p' → after_live W v p' ≡ after_live W v p → Ok W v x → Same v v x (staged (Some p') (result_in x))
  live_same v x p p' e l l' k q o = record { ok = grind arith; view = grind arith }

  execute_live : (v : View) (x : Stage) (p : Packet) (words : List ℕ) → Wide v → x.packet ≡ Some p → p.standing ≡ Live → p.state ≡ Waiting → ready p ≡ true →
      (touches p.fetched.instruction ≡ false) ⊎ MemoryIs words v → Ok W v x →
      Same v v x (staged (Some (worked W.table words W.handler p)) (result_in x))
  execute_live lost x p words z e l s r m o = live_same lost x p (worked W.table words W.handler p) e l l tt refl o
  execute_live (on S) x p words z e l s r m o =
      let k : LiveAt W S p = grind arith in
      live_same (on S) x p (worked W.table words W.handler p) e l l
      (worked_live S p words z k r m) (worked_view S p words s (effect_is S p words k r m)) o

  pub execute_same : (v : View) (x : Stage) (p : Packet) (words : List ℕ) → Wide v → x.packet ≡ Some p → may_execute p ≡ true → ready p ≡ true →
      (touches p.fetched.instruction ≡ false) ⊎ MemoryIs words v → Ok W v x → Same v v x (executing W.table words W.handler x)
  execute_same v x p words z e a r m o =
      let l : p.standing ≡ Live = grind arith in
      let s : p.state ≡ Waiting = grind arith in
      let q : staged (Some (worked W.table words W.handler p)) (result_in x) ≡ executing W.table words W.handler x = grind arith in
      subst (Same v v x) q (execute_live v x p words z e l s r m o)

  insert_by : (v : View) (x : Stage) (p : Packet) (effect : Effect) (owed : Option PipeResult) → x.packet ≡ Some p → result_in x ≡ None → p.standing ≡ Live →
      p.state ≡ Executed effect owed → Ok W v x → Same v v x (staged (Some (paid p)) owed)
  insert_by v x p effect owed e n l s o = record { ok = insert-ok v o; view = grind (arith, insert_view) }
    where
      insert-ok : (v : View) → Ok W v x → Ok W v (staged (Some (paid p)) owed)
      insert-ok lost o = grind arith
      insert-ok (on S) o =
          let k : LiveAt W S p = grind arith in
          let i = insert_live S p effect owed s k in
          grind arith

  pub insert_same : (v : View) (x : Stage) (p : Packet) → x.packet ≡ Some p → result_in x ≡ None → may_insert p ≡ true → Ok W v x → Same v v x (inserting x)
  insert_same v x p e n a o = by_state p.state refl
    where
      by_state : (state : PacketState) → p.state ≡ state → Same v v x (inserting x)
      by_state Waiting s = absurd (let z : ◌≡◌ {A = ℕ} 0 1 = grind arith in omega arith)
      by_state (Executed effect owed) s =
          let l : p.standing ≡ Live = grind arith in
          let q : staged (Some (paid p)) owed ≡ inserting x = grind arith in
          subst (Same v v x) q (insert_by v x p effect owed e n l s o)

  -- READ
  pub read_same : (S : State) (x : Stage) (register : Register) (word : ℕ) → length S.registers ≡ 16 → word ≡ get_or S.registers register.number 0 →
      result_in x ≡ None → Ok W (on S) x → Same (on S) (on S) x (met x.packet (Some (result.Value register word)))
  read_same S x register word z h e o =
      record {
        ok = cross_ok (on S) x.packet (Some (result.Value register word)) z h o.0;
        view = rw e (cross_view (on S) x.packet (Some (result.Value register word)));
      }

  -- RETIRE
  pub killed_same : (v : View) (x : Stage) (p : Packet) → x.packet ≡ Some p → p.standing ≡ Killed → Ok W v x → Same v v x (staged None (result_in x))
  killed_same v x p e k o = record { ok = grind arith; view = grind arith }

  pub top_live : (S : State) (x : Stage) (p : Packet) → x.packet ≡ Some p → p.standing ≡ Live → Ok W (on S) x → LiveAt W S p
  top_live S x p e l o = grind arith

  pub retire_same : (S : State) (x : Stage) (p : Packet) (effect : Effect) → x.packet ≡ Some p → p.standing ≡ Live → p.state ≡ Executed effect None →
      halts effect.action ≡ false → Ok W (on S) x → Same (on S) (on (advanced W S)) x (staged None (result_in x))
  retire_same S x p effect e l s h o = record { ok = grind arith; view = grind arith }
