-- One chosen move after another, until one gives a record.
use Rattle.std.proofs.Common.{◌≡◌, ℕ, zero, suc, ◌<◌, ◌≤◌, false, List, [], ◌∷◌, ◌++◌, length, Some, None, Ok, Err, Option, Result, sym, refl, ap, ◌∙◌, subst, arith, length-append}
use Rattle.effect.specs.declared.actions.Retirement.{Retirement}
use Rattle.stepper.specs.Machine.{World}
use Rattle.fit.specs.Fitting.{placed, All}
use Rattle.moves.specs.declared.kinds.Move.{Move}
use Rattle.moves.specs.declared.kinds.MoveKind.{MoveKind}
use Rattle.moves.specs.Decoding.{number_of, kind_of}
use Rattle.pipes.specs.declared.answers.MoveRefusal.{MoveRefusal}
use Rattle.pipes.specs.declared.state.Pipes.{Pipes}
use Rattle.pipes.specs.Questions.{asked, refusal_of}
use Rattle.pipes.specs.Moving.{Moved, went, accepted, accepted_by, moved_by, moved}
use Rattle.pipes.specs.Running.{Tally, begun, counted, moved_in, tallied, ran_from, ran}
use Rattle.pipes.specs.Draining.{bound, Drained}
use Rattle.draining.specs.Sound.{Sound}
use Rattle.draining.specs.Policy.{chosen}
use Rattle.draining.specs.Measure.{μ}
use Rattle.draining.specs.Reaching.{Reached, Ended}
use Rattle.draining.proofs.Keeping.{moved_sound}
use Rattle.draining.proofs.Nearing.{μ_bound}
use Rattle.draining.proofs.Choosing.{Good, chosen_good}

module _ (W : World) (sets : List ℕ) where
  ran_more : (t : Tally) (ms : List Move) (m : Move) → ran_from W sets t (ms ++ (m ∷ [])) ≡ tallied W sets (ran_from W sets t ms) m
  ran_more t [] m = refl
  ran_more t (x ∷ ms) m = ran_more (tallied W sets t x) ms m

  tallied_at : (t : Tally) (m : Move) (P : Pipes) (words : List ℕ) → t.pipes ≡ P → t.words ≡ words → moved_in W sets t m ≡ moved W sets P words (number_of m.kind) m.place
  tallied_at t m P words e q = ap (λ (Q : Pipes). moved W sets Q t.words (number_of m.kind) m.place) e ∙ ap (λ (ws : List ℕ). moved W sets P ws (number_of m.kind) m.place) q

  ran_last : (P : Pipes) (words : List ℕ) (ms : List Move) (m : Move) (Q : Pipes) (ws : List ℕ) (d : Moved) → (ran W sets P words ms).pipes ≡ Q → (ran W sets P words ms).words ≡ ws →
      moved W sets Q ws (number_of m.kind) m.place ≡ d → ran W sets P words (ms ++ (m ∷ [])) ≡ counted d.answer d.pipes d.words (ran W sets P words ms)
  ran_last P words ms m Q ws d e q h =
      let t = ran W sets P words ms in
      ran_more (begun P words) ms m ∙ ap (λ (x : Moved). counted x.answer x.pipes x.words t) (tallied_at t m Q ws e q ∙ h)

kind_number : (k : MoveKind) → kind_of (number_of k) ≡ Some k
kind_number k = grind arith

not_refused : (sets : List ℕ) (P : Pipes) (kind : MoveKind) (place : ℕ) → P.halted ≡ false → asked sets P kind place ≡ None → refusal_of sets P (number_of kind) place ≡ None
not_refused sets P kind place r e = rw (r, kind_number kind) e

taken : (W : World) (sets : List ℕ) (P : Pipes) (words : List ℕ) (m : Move) → P.halted ≡ false → asked sets P m.kind m.place ≡ None →
    moved W sets P words (number_of m.kind) m.place ≡ went (accepted W sets P words m.kind m.place)
taken W sets P words m r e =
    ap (λ (o : Option MoveRefusal). moved_by o P words (accepted_by W sets P words (kind_of (number_of m.kind)) m.place)) (not_refused sets P m.kind m.place r e)
    ∙ ap (λ (k : Option MoveKind). went (accepted_by W sets P words k m.place)) (kind_number m.kind)

pub reached_none : (W : World) (sets : List ℕ) (P : Pipes) (words : List ℕ) → Sound sets P → P.halted ≡ false → Reached W sets P words [] P words
reached_none W sets P words sound runs = record {
  none_turned_away = refl;
  leads = refl;
  leaves = refl;
  none_live = refl;
  sound = sound;
  runs_on = runs;
  few = let a = μ_bound sets P in omega arith;
}

-- one turn: what the chosen move answers, and what it leaves
module _ (W : World) (sets : List ℕ) (P : Pipes) (words : List ℕ) (ms : List Move) (Q : Pipes) (ws : List ℕ) (m : Move) (Q' : Pipes) (ws' : List ℕ)
    (fit : All (placed sets) W.program) (low : 2 ≤ length sets) (high : length sets ≤ 16) (far : Reached W sets P words ms Q ws) (chose : m ≡ chosen sets Q)
    (pipes : Q' ≡ (moved W sets Q ws (number_of m.kind) m.place).pipes) (left : ws' ≡ (moved W sets Q ws (number_of m.kind) m.place).words) where
  good : Good W sets Q ws m
  good = subst (Good W sets Q ws) (sym chose) (chosen_good W sets Q ws low high far.sound far.runs_on)

  does : moved W sets Q ws (number_of m.kind) m.place ≡ went (accepted W sets Q ws m.kind m.place)
  does = taken W sets Q ws m far.runs_on good.asks_well

  -- it is not turned away
  pub never_refused : (f : MoveRefusal) → (moved W sets Q ws (number_of m.kind) m.place).answer ≡ Err f → ⊥
  never_refused f e = let a = sym (ap (λ (x : Moved). x.answer) does) ∙ e in let z : ◌≡◌ {A = ℕ} 0 1 = cc in omega arith

  -- there is room for it
  pub has_room : length ms < bound (length sets)
  has_room = let a = far.few in let b = good.some_left in omega arith

  pub still_sound : Sound sets Q'
  still_sound = subst (Sound sets) (sym pipes) (moved_sound W sets Q ws fit low high far.sound (number_of m.kind) m.place)

  tally : (o : Option Retirement) → (moved W sets Q ws (number_of m.kind) m.place).answer ≡ Ok o →
      ran W sets P words (ms ++ (m ∷ [])) ≡ counted (Ok o) Q' ws' (ran W sets P words ms)
  tally o e =
      let t = ran W sets P words ms in
      ran_last W sets P words ms m Q ws _ far.leads far.leaves refl
      ∙ (let d = moved W sets Q ws (number_of m.kind) m.place in
      ap (λ (a : Result (Option Retirement) MoveRefusal). counted a d.pipes d.words t) e
      ∙ (ap (λ (x : Pipes). counted (Ok o) x d.words t) (sym pipes) ∙ ap (λ (x : List ℕ). counted (Ok o) Q' x t) (sym left)))

  silent : (moved W sets Q ws (number_of m.kind) m.place).answer ≡ Ok None → (accepted W sets Q ws m.kind m.place).retirement ≡ None
  silent e = let a = sym (ap (λ (x : Moved). x.answer) does) ∙ e in cc

  here : Q' ≡ (accepted W sets Q ws m.kind m.place).pipes
  here = pipes ∙ ap (λ (x : Moved). x.pipes) does

  pub reached_falls : (moved W sets Q ws (number_of m.kind) m.place).answer ≡ Ok None → μ sets Q' < μ sets Q
  reached_falls e = subst (λ x. μ sets x < μ sets Q) (sym here) (good.nears (silent e))

  -- no record yet: the drain goes on from there
  pub reached_more : (moved W sets Q ws (number_of m.kind) m.place).answer ≡ Ok None → Reached W sets P words (ms ++ (m ∷ [])) Q' ws'
  reached_more e =
      let t = tally None e in
      record {
        none_turned_away = ap (λ (x : Tally). x.turned_away) t ∙ far.none_turned_away;
        leads = ap (λ (x : Tally). x.pipes) t;
        leaves = ap (λ (x : Tally). x.words) t;
        none_live = ap (λ (x : Tally). x.live) t ∙ far.none_live;
        sound = still_sound;
        runs_on = ap (λ (x : Pipes). x.halted) here ∙ (good.runs_on (silent e) ∙ far.runs_on);
        few = let a = far.few in let b = reached_falls e in simp length-append (omega arith);
      }

  -- the record has come: the drain is done
  pub reached_last : (r : Retirement) → (moved W sets Q ws (number_of m.kind) m.place).answer ≡ Ok (Some r) → Drained W sets P words (ms ++ (m ∷ [])) r Q' ws'
  reached_last r e =
      let t = tally (Some r) e in
      record {
        none_turned_away = ap (λ (x : Tally). x.turned_away) t ∙ far.none_turned_away;
        leads = ap (λ (x : Tally). x.pipes) t;
        leaves = ap (λ (x : Tally). x.words) t;
        one = ap (λ (x : Tally). x.live) t ∙ ap (λ (rs : List Retirement). rs ++ (r ∷ [])) far.none_live;
        few = let a = has_room in simp length-append (omega arith);
      }

-- the policy again and again, as long as the measure lasts
module _ (W : World) (sets : List ℕ) (P : Pipes) (words : List ℕ) (fit : All (placed sets) W.program) (low : 2 ≤ length sets) (high : length sets ≤ 16) where
  go : (fuel : ℕ) (ms : List Move) (Q : Pipes) (ws : List ℕ) → Reached W sets P words ms Q ws → μ sets Q < fuel → (a : Result (Option Retirement) MoveRefusal) →
      (moved W sets Q ws (number_of (chosen sets Q).kind) (chosen sets Q).place).answer ≡ a → Ended W sets P words
  go zero ms Q ws far l a e = absurd (omega arith)
  go (suc fuel) ms Q ws far l (Err f) e = absurd (never_refused W sets P words ms Q ws (chosen sets Q) _ _ fit low high far refl refl refl f e)
  go (suc fuel) ms Q ws far l (Ok (Some r)) e = record {
    moves = ms ++ (chosen sets Q ∷ []);
    retirement = r;
    pipes_at_end = (moved W sets Q ws (number_of (chosen sets Q).kind) (chosen sets Q).place).pipes;
    words_at_end = (moved W sets Q ws (number_of (chosen sets Q).kind) (chosen sets Q).place).words;
    drained = reached_last W sets P words ms Q ws (chosen sets Q) _ _ fit low high far refl refl refl r e;
    sound = still_sound W sets P words ms Q ws (chosen sets Q) _ _ fit low high far refl refl refl;
  }
  go (suc fuel) ms Q ws far l (Ok None) e =
      let m = chosen sets Q in
      let d = moved W sets Q ws (number_of m.kind) m.place in
      let f = reached_falls W sets P words ms Q ws m d.pipes d.words fit low high far refl refl refl e in
      go fuel (ms ++ (m ∷ [])) d.pipes d.words (reached_more W sets P words ms Q ws m d.pipes d.words fit low high far refl refl refl e) (omega arith) _ refl

  pub drains : Sound sets P → P.halted ≡ false → Ended W sets P words
  drains sound runs = go (suc (μ sets P)) [] P words (reached_none W sets P words sound runs) (omega arith) _ refl
