-- The bottom of the pipes: what enters there, and what leaves.
use Rattle.std.proofs.Common.{◌≡◌, ℕ, Bool, true, false, cond, List, length, Some, None, Option, refl, ap, arith}
use Rattle.instruction.specs.declared.instructions.Operand.{Operand}
use Rattle.effect.specs.declared.actions.Effect.{Effect}
use Rattle.effect.specs.Effects.{effect_of}
use Rattle.stepper.specs.Machine.{World, State, word_of, effect_at, found_at, sources_of}
use Rattle.instruction.specs.Operands.{operands_at}
use Rattle.packets.specs.declared.packets.Packet.{Packet}
use Rattle.packets.specs.declared.packets.PacketState.TheVariants.{Waiting}
use Rattle.packets.specs.declared.results.PipeResult.{PipeResult}
use Rattle.packets.specs.declared.stages.Stage.{Stage}
use Rattle.packets.specs.Packets.{owed_by, executed_as}
use Rattle.packets.specs.Entering.{at_once, no_words, source_for, entering}
use Rattle.packets.specs.Stages.{staged, result_in, met}
use Rattle.pipes.specs.Moving.{fetch_behind, fetched_at, fetch_on}
use Rattle.agreement.specs.Walk.{View, on, lost, goes_on, flows, passing, after_result, after_live, after_packet, after, Sourced, ResultOk, StateAt, LiveAt, PacketOk, Ok, Bottom}
use Rattle.agreement.proofs.Facts.{at_once_lem, guessed, owed_right}
use Rattle.agreement.proofs.Local.{Wide, cross_ok, cross_view}

source_for_lem : (registers : List ℕ) (o : Option Operand) → Sourced registers (word_of registers o) (source_for o)
source_for_lem registers o = grind arith

module _ (W : World) (words : List ℕ) (S : State) where
  abbrev here : Packet
  here = entering W.table words W.handler (fetched_at W S.place)

  abbrev told : Effect
  told = effect_at W S

  entering_state : StateAt W S here.state → LiveAt W S here
  entering_state k =
      record {
        fetched = refl;
        guess = refl;
        first = source_for_lem S.registers (operands_at (found_at W S)).first;
        second = source_for_lem S.registers (operands_at (found_at W S)).second;
        state = k;
      }

  state_at : (now : Bool) (e : Effect) → (now ≡ true → e ≡ told) → length S.registers ≡ 16 →
      StateAt W S (cond now (executed_as here.guess e) Waiting) ×
      (flows here.guess told (cond now (executed_as here.guess e) Waiting) ≡ goes_on told.action (owed_by here.guess told.next told.action))
  state_at true e h z = ((h refl, rw (h refl) (owed_right told S here.guess z)), ap (λ (u : Effect). goes_on u.action (owed_by here.guess u.next u.action)) (h refl))
  state_at false e h z = (tt, refl)

  entering_at : length S.registers ≡ 16 → LiveAt W S here × Bottom (after_live W (on S) here) (fetch_behind (fetched_at W S.place))
  entering_at z =
      let q = state_at (at_once (found_at W S)) (effect_of W.table words W.handler (fetched_at W S.place) no_words)
      (at_once_lem W.table W.handler S.place (found_at W S) words S.words no_words (sources_of S.registers (found_at W S))) z in
      (entering_state q.0, rw q.1 (behind-it _ refl))
    where
      behind-it : (b : Bool) → goes_on told.action (owed_by here.guess told.next told.action) ≡ b → Bottom (passing W b S) (fetch_behind (fetched_at W S.place))
      behind-it false e = tt
      behind-it true e =
          let g = guessed W.table W.handler S.place (found_at W S) S.words (sources_of S.registers (found_at W S)) e in
          rw g.0 (ap Some g.1)

module _ (W : World) (words : List ℕ) where
  abbrev enters : ℕ → Packet
  enters place = entering W.table words W.handler (fetched_at W place)

  entering_ok : (v : View) (place : ℕ) → Wide v → Bottom v (Some place) →
      PacketOk W v (Some (enters place)) × Bottom (after_packet W v (Some (enters place))) (fetch_behind (fetched_at W place))
  entering_ok lost place z h = (tt, tt)
  entering_ok (on S) place z h =
      let e : place ≡ S.place = cc in
      rw e (entering_at W words S z)

  -- FETCH
  pub fetch_ok : (v : View) (x : Stage) (place : ℕ) → Wide v → x.packet ≡ None → Ok W v x → Bottom (after W v x) (Some place) →
      Ok W v (met (Some (enters place)) (result_in x)) × Bottom (after W v (met (Some (enters place)) (result_in x))) (fetch_behind (fetched_at W place))
  fetch_ok v x place z e o b =
      let u = after_result v (result_in x) in
      let w : Wide u = grind arith in
      let k = entering_ok u place w (rw e at b) in
      (cross_ok W v (Some (enters place)) (result_in x) z (rw e at o.1) k.0, rw (cross_view W v (Some (enters place)) (result_in x)) k.1)

-- DROP
pub drop_ok : (W : World) (v : View) (x : Stage) (fetch : Option ℕ) → Ok W v x → Bottom (after W v x) fetch →
    Ok W v (staged x.packet None) × Bottom (after W v (staged x.packet None)) (fetch_on (result_in x) fetch)
drop_ok W v x fetch o b = (drop_stage, dropped (after_packet W v x.packet) (result_in x) o.1 b)
  where
    drop_stage : Ok W v (staged x.packet None)
    drop_stage = grind arith

    dropped : (u : View) (held : Option PipeResult) → ResultOk u held → Bottom (after_result u held) fetch → Bottom u (fetch_on held fetch)
    dropped u held h k = grind arith
