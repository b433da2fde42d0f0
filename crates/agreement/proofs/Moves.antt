-- Every accepted move keeps the agreement.
use Rattle.std.proofs.Common.{◌≡◌, ℕ, Bool, zero, suc, ◌+◌, ◌-◌, ◌%◌, ◌<◌, ◌≤◌, true, false, cond, ◌&&◌, ◌||◌, ◌⊎◌, List, length, get_or, drop, set, Some, None, Option, sym, refl, ap, ◌∙◌, subst, inl, inr, add-one, arith, length-set, get_or-set_other}
use Rattle.std.proofs.lemmas.Bool.{cases_lt, and_parts, or_parts}
use Rattle.instruction.specs.declared.instructions.Instruction.{Instruction}
use Rattle.instruction.specs.Named.{register}
use Rattle.effect.specs.declared.actions.Effect.{Effect}
use Rattle.effect.specs.declared.actions.Retirement.{Retirement}
use Rattle.effect.specs.Changes.{halts}
use Rattle.moves.specs.declared.kinds.MoveKind.{MoveKind}
use Rattle.moves.specs.declared.kinds.MoveKind.TheVariants.{Fetch, Raise, Lower, Execute, Insert, Read, Retire, Drop}
use Rattle.stepper.specs.Machine.{World, State, effect_at, applied, stepped, retired}
use Rattle.packets.specs.declared.packets.Packet.{Packet}
use Rattle.packets.specs.declared.packets.PacketState.{PacketState}
use Rattle.packets.specs.declared.packets.PacketState.TheVariants.{Waiting, Executed}
use Rattle.packets.specs.declared.packets.Standing.{Standing}
use Rattle.packets.specs.declared.packets.Standing.TheVariants.{Live, Killed}
use Rattle.packets.specs.declared.stages.Stage.{Stage}
use Rattle.packets.specs.Packets.{ready, may_execute, may_insert, may_retire}
use Rattle.packets.specs.Stages.{staged, vacant, result_in, met, executing, inserting}
use Rattle.pipes.specs.declared.state.Pipes.{Pipes}
use Rattle.pipes.specs.Questions.{stage_at, packet_at, top, able_for, asked}
use Rattle.pipes.specs.Moving.{Left, with_stages, with_stage, with_fetch, accepted, fetched_from, fetch_on, vacated, read_value, writing, writing_if, leaving_effect, retired_from}
use Rattle.agreement.specs.Walk.{View, on, advanced, after, down, Ok, Good, Bottom, LiveAt, Agrees}
use Rattle.agreement.specs.Layouts.{Laid}
use Rattle.agreement.specs.Following.{onward, Next}
use Rattle.agreement.proofs.Facts.{touches, untouched, registers_wide}
use Rattle.agreement.proofs.Asking.{AtPacket, at_packet, fetch_asks, raise_asks, lower_asks, read_asks, execute_asks, insert_asks, retire_asks}
use Rattle.agreement.proofs.Local.{Wide, MemoryIs, Same, Same2, raise_same, lower_same, execute_same, insert_same, read_same, killed_same, retire_same, top_live}
use Rattle.agreement.proofs.Ends.{fetch_ok, drop_ok}
use Rattle.agreement.proofs.Frame.{Kept, down_wide, good_above, ok_at, bottom_is, bottom_set, calm, keeps_one, keeps_two, set_neighbours}

pub record Keeps (W : World) (sets : List ℕ) (S : State) (given : Option Retirement) (P : Pipes) (words : List ℕ) : Type 0 where
  pub agrees : Agrees W sets (onward W given S) P words
  pub next : Next W S given

abbrev pub KeepsLeft : World → List ℕ → State → Left → Type 0
KeepsLeft W sets S left = Keeps W sets S left.retirement left.pipes left.words

module _ (W : World) (sets : List ℕ) (laid : Laid sets) (S : State) (P : Pipes) (words : List ℕ) (a : Agrees W sets S P words) (going : P.halted ≡ false) where
  good : Good W (on S) P.stages
  good = (a.walk going).0

  -- only stages change
  restaged : (xs : List Stage) → length xs ≡ 16 → ((j : ℕ) → length sets ≤ j → get_or xs j vacant ≡ vacant) → Kept W (on S) (on S) P.stages xs →
      Agrees W sets S (with_stages P xs) words
  restaged xs n v k =
      record {
        sixteen = n;
        wide = a.wide;
        above = v;
        same_registers = a.same_registers;
        same_words = a.same_words;
        same_mark = a.same_mark;
        walk = λ _. (k.good, rw k.view (a.walk going).1);
      }

  length_one : (k : ℕ) (x : Stage) → length (set P.stages k x) ≡ 16
  length_one k x = length-set P.stages k x ∙ a.sixteen

  above_one : (k : ℕ) (x : Stage) → k < length sets → (j : ℕ) → length sets ≤ j → get_or (set P.stages k x) j vacant ≡ vacant
  above_one k x l j m = get_or-set_other P.stages k j x vacant (λ e. omega arith) ∙ a.above j m

  -- the view above a stage
  abbrev upon : ℕ → View
  upon k = down W (on S) (drop (suc k) P.stages)

  one_stage : (k : ℕ) (x : Stage) → k < length sets → (Wide (upon k) → Ok W (upon k) (stage_at P k) → Same W (upon k) (upon k) (stage_at P k) x) →
      Agrees W sets S (with_stage P k x) words
  one_stage k x l h =
      restaged (set P.stages k x) (length_one k x) (above_one k x l)
      (keeps_one W (on S) (on S) k P.stages x (omega (arith, laid.high, a.sixteen)) (good_above W (on S) (suc k) P.stages good)
      (h (down_wide W (on S) (drop (suc k) P.stages) a.wide)) good)

  two_stages : (k : ℕ) (x y : Stage) → suc k < length sets →
      (Wide (upon (suc k)) → Ok W (upon (suc k)) (stage_at P (suc k)) → Ok W (after W (upon (suc k)) (stage_at P (suc k))) (stage_at P k) →
      Same2 W (upon (suc k)) (stage_at P k) (stage_at P (suc k)) x y) →
      Agrees W sets S (with_stage (with_stage P k x) (suc k) y) words
  two_stages k x y l h =
      restaged (set (set P.stages k x) (suc k) y) (length-set (set P.stages k x) (suc k) y ∙ length_one k x)
      (λ j m. get_or-set_other (set P.stages k x) (suc k) j y vacant (λ e. omega arith) ∙ above_one k x (omega arith) j m)
      (keeps_two W (on S) k P.stages x y (omega (arith, laid.high, a.sixteen))
      (h (down_wide W (on S) (drop (suc (suc k)) P.stages) a.wide)) good)

  raise_keeps : (s : ℕ) → suc s < length sets → packet_at P (suc s) ≡ None →
      Agrees W sets S (with_stage (with_stage P s (staged None (result_in (stage_at P s)))) (suc s) (met (packet_at P s) (result_in (stage_at P (suc s))))) words
  raise_keeps s l e = two_stages s _ _ l (λ w. raise_same W (upon (suc s)) (stage_at P s) (stage_at P (suc s)) w e)

  lower_keeps : (s : ℕ) → suc s < length sets → result_in (stage_at P s) ≡ None →
      Agrees W sets S (with_stage (with_stage P (suc s) (staged (packet_at P (suc s)) None)) s (met (packet_at P s) (result_in (stage_at P (suc s))))) words
  lower_keeps s l e =
      let x = met (packet_at P s) (result_in (stage_at P (suc s))) in
      let y = staged (packet_at P (suc s)) None in
      subst (λ xs. Agrees W sets S (with_stages P xs) words) (set_neighbours s P.stages x y)
      (two_stages s x y l (λ w. lower_same W (upon (suc s)) (stage_at P s) (stage_at P (suc s)) w e))

  insert_keeps : (s : ℕ) → s < length sets → (p : Packet) → packet_at P s ≡ Some p → result_in (stage_at P s) ≡ None → may_insert p ≡ true →
      Agrees W sets S (with_stage P s (inserting (stage_at P s))) words
  insert_keeps s l p e n m = one_stage s _ l (λ w. insert_same W (upon s) (stage_at P s) p e n m)

  -- above the top stage the view is as it starts
  top_is : suc (top sets) ≡ length sets
  top_is = omega (arith, laid.low)

  top_calm : (v : View) → (down W v (drop (suc (top sets)) P.stages) ≡ v) × Good W v (drop (suc (top sets)) P.stages)
  top_calm v = calm W v (top sets) P.stages (λ j l. a.above j (omega (arith, top_is)))

  memory_at : (s : ℕ) (found : Option Instruction) → s < length sets → able_for sets s found ≡ true → (touches found ≡ false) ⊎ MemoryIs words (upon s)
  memory_at s found l h =
      elim (cases_lt (s + 1) (length sets)) [
        | inl k ↦ inl (untouched sets s found h (laid.memory s k).0 (laid.memory s k).1)
        | inr k ↦ inr (at_top (omega (arith, top_is)))
      ]
    where
      at_top : s ≡ top sets → MemoryIs words (upon s)
      at_top e = rw (e, (top_calm (on S)).0) a.same_words

  execute_keeps : (s : ℕ) → s < length sets → (p : Packet) → packet_at P s ≡ Some p → may_execute p ≡ true → ready p ≡ true → able_for sets s p.fetched.instruction ≡ true →
      Agrees W sets S (with_stage P s (executing W.table words W.handler (stage_at P s))) words
  execute_keeps s l p e m r h = one_stage s _ l (λ w. execute_same W (upon s) (stage_at P s) p words w e m r (memory_at s p.fetched.instruction l h))

  top_stage : (v : View) (x : Stage) → (Ok W (on S) (stage_at P (top sets)) → Same W (on S) v (stage_at P (top sets)) x) → Kept W (on S) v P.stages (set P.stages (top sets) x)
  top_stage v x h =
      keeps_one W (on S) v (top sets) P.stages x (omega (arith, top_is, laid.high, a.sixteen)) (top_calm v).1
      (rw ((top_calm (on S)).0, (top_calm v).0) h) good

  top_keeps : (x : Stage) → (Ok W (on S) (stage_at P (top sets)) → Same W (on S) (on S) (stage_at P (top sets)) x) → Agrees W sets S (with_stage P (top sets) x) words
  top_keeps x h = restaged (set P.stages (top sets) x) (length_one (top sets) x) (above_one (top sets) x (omega (arith, top_is))) (top_stage (on S) x h)

  read_keeps : (r : ℕ) → r < 16 → result_in (stage_at P (top sets)) ≡ None →
      Agrees W sets S (with_stage P (top sets) (met (packet_at P (top sets)) (Some (read_value P r)))) words
  read_keeps r l e = top_keeps _ (read_same W S (stage_at P (top sets)) (register r) (get_or P.registers r 0) a.wide word-is e)
    where
      word-is : get_or P.registers r 0 ≡ get_or S.registers (r % 16) 0
      word-is = let m : r % 16 ≡ r = omega arith in rw (m, a.same_registers)

  retire_killed : (p : Packet) → packet_at P (top sets) ≡ Some p → p.standing ≡ Killed → Agrees W sets S (vacated sets P) words
  retire_killed p e k = top_keeps _ (killed_same W (on S) (stage_at P (top sets)) p e k)

  not_halted : S.halted ≡ false
  not_halted = sym a.same_mark ∙ going

  stepped_is : stepped W S ≡ advanced W S
  stepped_is = ap (λ (b : Bool). cond b S (applied (effect_at W S) S)) not_halted

  top_ok : Ok W (on S) (stage_at P (top sets))
  top_ok = rw (top_calm (on S)).0 at (ok_at W (on S) (top sets) P.stages (omega (arith, top_is, laid.high, a.sixteen)) good)

  -- a live packet at the top is the next instruction, with its effect
  retire_live : (p : Packet) (e : Effect) → packet_at P (top sets) ≡ Some p → p.standing ≡ Live → p.state ≡ Executed e None →
      KeepsLeft W sets S (writing (vacated sets P) words p.fetched.place e)
  retire_live p e h l s = record { agrees = rw stepped_is agreed; next = (not_halted, recorded) }
    where
      live : LiveAt W S p
      live = top_live W S (stage_at P (top sets)) p h l top_ok

      effect_is : e ≡ effect_at W S
      effect_is = (rw s at live.state).0

      recorded : record { place = p.fetched.place; action = e.action } ≡ retired W S
      recorded = rw (live.fetched, effect_is)

      below : halts e.action || P.halted ≡ false → Kept W (on S) (on (advanced W S)) P.stages (vacated sets P).stages
      below q = top_stage (on (advanced W S)) _ (retire_same W S (stage_at P (top sets)) p e h l s (or_parts (halts e.action) P.halted q).0)

      agreed : Agrees W sets (advanced W S) (writing (vacated sets P) words p.fetched.place e).pipes (writing (vacated sets P) words p.fetched.place e).words
      agreed = record {
        sixteen = length_one (top sets) _;
        wide = registers_wide (effect_at W S).action S.registers a.wide;
        above = above_one (top sets) _ (omega (arith, top_is));
        same_registers = rw (effect_is, a.same_registers);
        same_words = rw (effect_is, a.same_words);
        same_mark = rw (effect_is, a.same_mark);
        walk = λ q. ((below q).good, rw (below q).view (a.walk going).1);
      }

  -- the bottom stage and fetch change
  rebottomed : (x : Stage) (fetch : Option ℕ) →
      (Wide (upon 0) → Ok W (upon 0) (stage_at P 0) → Bottom (after W (upon 0) (stage_at P 0)) P.fetch → Ok W (upon 0) x × Bottom (after W (upon 0) x) fetch) →
      Agrees W sets S (with_fetch (with_stage P 0 x) fetch) words
  rebottomed x fetch h =
      record {
        sixteen = length_one 0 x;
        wide = a.wide;
        above = above_one 0 x (omega (arith, laid.low));
        same_registers = a.same_registers;
        same_words = a.same_words;
        same_mark = a.same_mark;
        walk = λ _. (below.0, rw below.1 here.1);
      }
    where
      some : 0 < length P.stages
      some = omega (arith, a.sixteen)

      here : Ok W (upon 0) x × Bottom (after W (upon 0) x) fetch
      here = h (down_wide W (on S) (drop 1 P.stages) a.wide) (ok_at W (on S) 0 P.stages some good)
          (rw (bottom_is W (on S) P.stages some) at (a.walk going).1)

      below : Good W (on S) (set P.stages 0 x) × (down W (on S) (set P.stages 0 x) ≡ after W (upon 0) x)
      below = bottom_set W (on S) P.stages x some good here.0

  fetch_keeps : (fetch : Option ℕ) → P.fetch ≡ fetch → packet_at P 0 ≡ None → Agrees W sets S (fetched_from W words P fetch) words
  fetch_keeps None f e = a
  fetch_keeps (Some place) f e = rebottomed _ _ (λ w o b. fetch_ok W words (upon 0) (stage_at P 0) place w e o (rw f at b))

  drop_keeps : Agrees W sets S (with_fetch (with_stage P 0 (staged (packet_at P 0) None)) (fetch_on (result_in (stage_at P 0)) P.fetch)) words
  drop_keeps = rebottomed _ _ (λ w o b. drop_ok W (upon 0) (stage_at P 0) P.fetch o b)

  silent : {P' : Pipes} → Agrees W sets S P' words → Keeps W sets S None P' words
  silent x = record { agrees = x; next = tt }

  executing_it : (s : ℕ) → s < length sets → AtPacket (λ p. may_execute p && (ready p && able_for sets s p.fetched.instruction)) (packet_at P s) →
      KeepsLeft W sets S (accepted W sets P words Execute s)
  executing_it s l q =
      let p = q.there in
      let m = and_parts (may_execute p) (ready p && able_for sets s p.fetched.instruction) q.passed in
      let r = and_parts (ready p) (able_for sets s p.fetched.instruction) m.1 in
      silent (execute_keeps s l p q.is m.0 r.0 r.1)

  inserting_it : (s : ℕ) → s < length sets → result_in (stage_at P s) ≡ None → AtPacket may_insert (packet_at P s) → KeepsLeft W sets S (accepted W sets P words Insert s)
  inserting_it s l n q = silent (insert_keeps s l q.there q.is n q.passed)

  raising_it : (s : ℕ) → s + 1 < length sets → packet_at P (s + 1) ≡ None → KeepsLeft W sets S (accepted W sets P words Raise s)
  raising_it s l n = silent (rw (add-one s) (raise_keeps s (rw (add-one s) at l) (rw (add-one s) at n)))

  lowering_it : (s : ℕ) → 0 < s → s < length sets → result_in (stage_at P (s - 1)) ≡ None → KeepsLeft W sets S (accepted W sets P words Lower s)
  lowering_it zero z l n = absurd (omega arith)
  lowering_it (suc s) z l n =
      let e : suc s - 1 ≡ s = omega arith in
      silent (rw e (lower_keeps s l (rw e at n)))

  retiring_it : (p : Packet) → packet_at P (top sets) ≡ Some p → may_retire p ≡ true → KeepsLeft W sets S (retired_from (vacated sets P) words (Some p))
  retiring_it p h m = by-standing p.standing refl
    where
      by_state : p.standing ≡ Live → (state : PacketState) → p.state ≡ state → KeepsLeft W sets S (retired_from (vacated sets P) words (Some p))
      by_state l Waiting e = absurd (let z : ◌≡◌ {A = ℕ} 0 1 = grind arith in omega arith)
      by_state l (Executed e (Some r)) s = absurd (let z : ◌≡◌ {A = ℕ} 0 1 = grind arith in omega arith)
      by_state l (Executed e None) s =
          let q : leaving_effect p ≡ Some e = grind arith in
          subst (λ o. KeepsLeft W sets S (writing_if (vacated sets P) words p.fetched.place o)) (sym q) (retire_live p e h l s)

      by-standing : (standing : Standing) → p.standing ≡ standing → KeepsLeft W sets S (retired_from (vacated sets P) words (Some p))
      by-standing Live l = by_state l p.state refl
      by-standing Killed k =
          let q : leaving_effect p ≡ None = grind arith in
          subst (λ o. KeepsLeft W sets S (writing_if (vacated sets P) words p.fetched.place o)) (sym q) (silent (retire_killed p h k))

  pub accepted_keeps : (kind : MoveKind) (place : ℕ) → asked sets P kind place ≡ None → KeepsLeft W sets S (accepted W sets P words kind place)
  accepted_keeps Fetch s h = silent (fetch_keeps P.fetch refl (fetch_asks sets P s h))
  accepted_keeps Raise s h = let q = raise_asks sets P s h in raising_it s q.0 q.1
  accepted_keeps Lower s h = let q = lower_asks sets P s h in lowering_it s q.0 q.1 q.2
  accepted_keeps Execute s h = let q = execute_asks sets P s h in executing_it s q.0 (at_packet _ (packet_at P s) q.1)
  accepted_keeps Insert s h = let q = insert_asks sets P s h in inserting_it s q.0 q.1 (at_packet may_insert (packet_at P s) q.2)
  accepted_keeps Read r h = let q = read_asks sets P r h in silent (read_keeps r q.0 q.1)
  accepted_keeps Retire s h =
      let q = at_packet may_retire (packet_at P (top sets)) (retire_asks sets P s h) in
      subst (λ o. KeepsLeft W sets S (retired_from (vacated sets P) words o)) (sym q.is) (retiring_it q.there q.is q.passed)
  accepted_keeps Drop s h = silent drop_keeps
