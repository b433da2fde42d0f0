-- Every move, every list of moves.
use Rattle.std.proofs.Common.{◌≡◌, ℕ, zero, suc, false, List, [], ◌∷◌, ◌++◌, length, get_or, replicate, Some, None, Ok, Err, Option, Result, sym, refl, subst, append-nil, arith, length-append}
use Rattle.effect.specs.declared.actions.Retirement.{Retirement}
use Rattle.moves.specs.declared.kinds.Move.{Move}
use Rattle.moves.specs.declared.kinds.MoveKind.{MoveKind}
use Rattle.moves.specs.Decoding.{kind_of, number_of}
use Rattle.stepper.specs.Machine.{World, State, start, execution}
use Rattle.stepper.proofs.Executions.{execution_more, records_more}
use Rattle.packets.specs.Stages.{vacant}
use Rattle.pipes.specs.declared.answers.MoveRefusal.{MoveRefusal}
use Rattle.pipes.specs.declared.state.Pipes.{Pipes}
use Rattle.pipes.specs.Questions.{asked, refusal_of}
use Rattle.pipes.specs.Moving.{Left, Moved, fresh, moved, moved_by, accepted_by}
use Rattle.pipes.specs.Running.{Tally, begun, counted, moved_in, tallied, ran_from, ran}
use Rattle.agreement.specs.Walk.{on, Agrees}
use Rattle.agreement.specs.Layouts.{Laid}
use Rattle.agreement.specs.Successions.{given, told}
use Rattle.agreement.specs.Following.{Follows}
use Rattle.agreement.proofs.Frame.{hollow}
use Rattle.agreement.proofs.Moves.{Keeps, accepted_keeps}

module _ (W : World) (sets : List ℕ) where
  pub fresh_agrees : (words : List ℕ) → Laid sets → Agrees W sets (start words) fresh words
  fresh_agrees words laid =
      let h = hollow W (on (start words)) (replicate 16 vacant) (vacant-at 16) in
      record {
        sixteen = refl;
        wide = refl;
        above = λ s _. vacant-at 16 s;
        same_registers = refl;
        same_words = refl;
        same_mark = refl;
        walk = λ _. (h.1, refl);
      }
    where
      vacant-at : (n j : ℕ) → get_or (replicate n vacant) j vacant ≡ vacant
      vacant-at zero j = refl
      vacant-at (suc n) zero = refl
      vacant-at (suc n) (suc j) = vacant-at n j

  module _ (laid : Laid sets) (S : State) (P : Pipes) (words : List ℕ) (a : Agrees W sets S P words) where
    abbrev KeepsMoved : Moved → Type 0
    KeepsMoved m = Keeps W sets S (given m.answer) m.pipes m.words

    refused : (f : MoveRefusal) (left : Left) → KeepsMoved (moved_by (Some f) P words left)
    refused f left = record { agrees = a; next = tt }

    by_question : (kind place : ℕ) → P.halted ≡ false → (k : Option MoveKind) → kind_of kind ≡ k → refusal_of sets P kind place ≡ None →
        KeepsMoved (moved_by None P words (accepted_by W sets P words (kind_of kind) place))
    by_question kind place g None e h = absurd (let z : ◌≡◌ {A = ℕ} 0 1 = grind arith in omega arith)
    by_question kind place g (Some k) e h =
        let q : asked sets P k place ≡ None = grind arith in
        subst (λ o. KeepsMoved (moved_by None P words (accepted_by W sets P words o place))) (sym e) (accepted_keeps W sets laid S P words a g k place q)

    pub moved_keeps : (kind place : ℕ) → KeepsMoved (moved W sets P words kind place)
    moved_keeps kind place = by-refusal (refusal_of sets P kind place) refl
      where
        by-refusal : (o : Option MoveRefusal) → refusal_of sets P kind place ≡ o → KeepsMoved (moved_by o P words (accepted_by W sets P words (kind_of kind) place))
        by-refusal (Some f) e = refused f (accepted_by W sets P words (kind_of kind) place)
        by-refusal None e =
            let g : P.halted ≡ false = grind arith in
            by_question kind place g (kind_of kind) refl e

-- records that follow those so far
module _ (W : World) (sets : List ℕ) where
  pub follows_on : (S : State) (P P' : Pipes) (words words' : List ℕ) (rs qs : List Retirement) → Follows W sets S P words rs →
      Follows W sets (execution W (length rs) S) P' words' qs → Follows W sets S P' words' (rs ++ qs)
  follows_on S P P' words words' rs qs f k =
      record {
        agrees = rw (length-append rs qs, execution_more W (length rs) (length qs) S) k.agrees;
        same_records = rw (length-append rs qs, records_more W (length rs) (length qs) S, ← f.same_records, ← k.same_records);
      }

  pub follows_none : (S : State) (P : Pipes) (words : List ℕ) → Agrees W sets S P words → Follows W sets S P words []
  follows_none S P words a = record { agrees = a; same_records = refl }

  keeps_follows : (S : State) (r : Option Retirement) (P : Pipes) (words : List ℕ) → Keeps W sets S r P words → Follows W sets S P words (told r)
  keeps_follows S None P words k = record { agrees = k.agrees; same_records = refl }
  keeps_follows S (Some r) P words k = record { agrees = k.agrees; same_records = rw (k.next.0, k.next.1) }

  pub moved_follows : Laid sets → (S : State) (P : Pipes) (words : List ℕ) (rs : List Retirement) (kind place : ℕ) → Follows W sets S P words rs →
      Follows W sets S (moved W sets P words kind place).pipes (moved W sets P words kind place).words (rs ++ told (given (moved W sets P words kind place).answer))
  moved_follows laid S P words rs kind place f =
      let m = moved W sets P words kind place in
      let T = execution W (length rs) S in
      follows_on S P m.pipes words m.words rs (told (given m.answer)) f
      (keeps_follows T (given m.answer) m.pipes m.words (moved_keeps W sets laid T P words f.agrees kind place))

  abbrev pub FollowsIn : State → Tally → Type 0
  FollowsIn S t = Follows W sets S t.pipes t.words t.live

  counted_follows : (S : State) (answer : Result (Option Retirement) MoveRefusal) (P : Pipes) (words : List ℕ) (t : Tally) →
      Follows W sets S P words (t.live ++ told (given answer)) → FollowsIn S (counted answer P words t)
  counted_follows S (Ok None) P words t f = rw append-nil at f
  counted_follows S (Ok (Some r)) P words t f = f
  counted_follows S (Err e) P words t f = rw append-nil at f

  pub tallied_follows : Laid sets → (S : State) (t : Tally) (m : Move) → FollowsIn S t → FollowsIn S (tallied W sets t m)
  tallied_follows laid S t m f =
      let w = moved_in W sets t m in
      counted_follows S w.answer w.pipes w.words t (moved_follows laid S t.pipes t.words t.live (number_of m.kind) m.place f)

  pub ran_from_follows : Laid sets → (S : State) (t : Tally) (ms : List Move) → FollowsIn S t → FollowsIn S (ran_from W sets t ms)
  ran_from_follows laid S t [] f = f
  ran_from_follows laid S t (m ∷ ms) f = ran_from_follows laid S (tallied W sets t m) ms (tallied_follows laid S t m f)

  -- any list of moves, accepted and refused
  pub ran_keeps : Laid sets → (S : State) (P : Pipes) (words : List ℕ) (ms : List Move) → Agrees W sets S P words → FollowsIn S (ran W sets P words ms)
  ran_keeps laid S P words ms a = ran_from_follows laid S (begun P words) ms (follows_none S P words a)
