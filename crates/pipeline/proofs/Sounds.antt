-- Whatever calls are made, the pipes stay sound.
use Rattle.std.proofs.Common.{◌≡◌, ℕ, Bool, true, false, cond, leb, List, [], ◌∷◌, Some, None, Ok, Err, Option, Result, sym, refl, subst}
use Rattle.fit.specs.Fitting.{All, placed}
use Rattle.effect.specs.declared.actions.Retirement.{Retirement}
use Rattle.effect.specs.Effects.{Table}
use Rattle.moves.specs.declared.kinds.Move.{Move}
use Rattle.moves.specs.Decoding.{number_of}
use Rattle.stepper.specs.Machine.{World}
use Rattle.pipes.specs.declared.answers.Drain.{Drain}
use Rattle.pipes.specs.declared.answers.DrainRefusal.{DrainRefusal}
use Rattle.pipes.specs.declared.answers.MoveRefusal.{MoveRefusal}
use Rattle.pipes.specs.declared.state.Pipes.{Pipes}
use Rattle.pipes.specs.Moving.{Moved}
use Rattle.pipes.specs.Running.{Tally, begun, counted, moved_in, tallied, ran_from, ran, retirements, finished, not_begun, run_of}
use Rattle.pipes.specs.Draining.{drain_refusal, DrainsIf}
use Rattle.draining.specs.Sound.{Sound}
use Rattle.draining.proofs.Keeping.{fresh_sound, moved_sound}
use Rattle.agreement.specs.Layouts.{Laid}
use Rattle.agreement.proofs.Layouts.{read_laid}
use Rattle.pipeline.specs.declared.pipelines.Pipeline.{Pipeline}
use Rattle.pipeline.specs.Calls.{move_made}
use Rattle.pipeline.specs.Views.{stages_in, world_in}
use Rattle.agreement.specs.Successions.{Succession, built, move, run, drain}

module _ (W : World) (sets : List ℕ) (fit : All (placed sets) W.program) (laid : Laid sets) where
  counted_pipes : (answer : Result (Option Retirement) MoveRefusal) (P : Pipes) (words : List ℕ) (t : Tally) → (counted answer P words t).pipes ≡ P
  counted_pipes (Ok None) P words t = refl
  counted_pipes (Ok (Some r)) P words t = refl
  counted_pipes (Err f) P words t = refl

  ran_from_sound : (ms : List Move) (t : Tally) → Sound sets t.pipes → Sound sets (ran_from W sets t ms).pipes
  ran_from_sound [] t h = h
  ran_from_sound (m ∷ ms) t h =
      let kept = moved_sound W sets t.pipes t.words fit laid.low laid.high h (number_of m.kind) m.place in
      let d = moved_in W sets t m in
      ran_from_sound ms (tallied W sets t m) (subst (λ (P : Pipes). Sound sets P) (sym (counted_pipes d.answer d.pipes d.words t)) kept)

  run_sound : (P : Pipes) (words : List ℕ) (ms : List Move) (room : ℕ) → Sound sets P → Sound sets (run_of W sets P words ms room).pipes
  run_sound P words ms room h = by (leb (retirements ms) room)
    where
      by : (b : Bool) → Sound sets (cond b (finished (ran W sets P words ms)) (not_begun P words)).pipes
      by true = ran_from_sound ms (begun P words) h
      by false = h

  drain_sound : (P : Pipes) (words : List ℕ) (ms : List Move) (P' : Pipes) (words' : List ℕ) → Sound sets P → (o : Option DrainRefusal) (answer : Result Drain DrainRefusal) →
      DrainsIf W sets P words ms P' words' o answer → Sound sets P'
  drain_sound P words ms P' words' h (Some f) (Ok d) k = absurd k
  drain_sound P words ms P' words' h (Some f) (Err e) k = subst (λ (Q : Pipes). Sound sets Q) (sym k.2) h
  drain_sound P words ms P' words' h None (Ok d) k = subst (λ (Q : Pipes). Sound sets Q) k.1.leads (ran_from_sound ms (begun P words) h)
  drain_sound P words ms P' words' h None (Err e) k = absurd k

  pub succession_sound : {first : List ℕ} {P : Pipes} {words : List ℕ} {rs : List Retirement} → Succession W sets first P words rs → Sound sets P
  succession_sound built = fresh_sound sets
  succession_sound (move {P} {words} s kind place) = moved_sound W sets P words fit laid.low laid.high (succession_sound s) kind place
  succession_sound (run {P} {words} s ms room) = run_sound P words ms room (succession_sound s)
  succession_sound (drain {P} {words} s room answer ms P' words' k) = drain_sound P words ms P' words' (succession_sound s) (drain_refusal sets P room) answer k

-- a move leaves the pipes of a pipeline sound
pub move_sound : (table : Table) (p : Pipeline) (words : List ℕ) (kind place : ℕ) {d : Moved} → d ≡ move_made table p words kind place → Sound (stages_in p) d.pipes
move_sound table p words kind place e =
    let laid = read_laid p.layout in
    let kept = moved_sound (world_in p table) (stages_in p) p.pipes words p.fits laid.low laid.high p.sound kind place in
    subst (λ (x : Moved). Sound (stages_in p) x.pipes) (sym e) kept
