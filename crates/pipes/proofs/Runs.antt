-- A run, move by move, and the log that it fills.
use Rattle.std.proofs.Common.{◌≡◌, ℕ, ◌+◌, ◌<◌, ◌≤◌, Bool, true, false, cond, eqb, leb, List, [], ◌∷◌, ◌++◌, length, Some, None, Ok, Err, Option, Result, sym, refl, ap, ◌∙◌, subst, add-one, arith, length-append}
use Rattle.std.proofs.lemmas.Bool.{lt-leb, le-leb, cond-true, cond-false}
use Rattle.std.proofs.lemmas.List.Sums.{sum_by-cons}
use Rattle.bounded_log.specs.declared.places.Log.{Log}
use Rattle.bounded_log.specs.Room.{room, Logs}
use Rattle.effect.specs.declared.actions.Retirement.{Retirement}
use Rattle.moves.specs.declared.kinds.Move.{Move}
use Rattle.moves.specs.declared.kinds.MoveKind.{MoveKind}
use Rattle.moves.specs.declared.kinds.MoveKind.TheVariants.{Fetch, Raise, Lower, Execute, Insert, Read, Retire, Drop}
use Rattle.moves.specs.Decoding.{number_of}
use Rattle.stepper.specs.Machine.{World}
use Rattle.pipes.specs.declared.answers.MoveRefusal.{MoveRefusal}
use Rattle.pipes.specs.declared.answers.RunFigures.{RunFigures}
use Rattle.pipes.specs.declared.answers.RunRefusal.{RunRefusal}
use Rattle.pipes.specs.declared.answers.RunRefusal.TheVariants.{ShortLog}
use Rattle.pipes.specs.declared.state.Pipes.{Pipes}
use Rattle.pipes.specs.Questions.{refusal_of}
use Rattle.pipes.specs.Moving.{Left, Moved, moved_by, moved, accepted}
use Rattle.pipes.specs.Running.{Tally, counted, is_retire, retirements, ran_from, ran, figures_of, figures_after, records_of, Run, finished, not_begun, run_of, RunsTo}
use Rattle.bounded_log.proofs.Logged.{logs_none, logs_room, logs_then, logs_nothing}

-- only RETIRE gives a record
given_by : (o : Option MoveRefusal) (P : Pipes) (words : List ℕ) (left : Left) (r : Retirement) → Ok (Some r) ≡ (moved_by o P words left).answer → left.retirement ≡ Some r
given_by None P words left r e = cc
given_by (Some f) P words left r e = absurd (let z : ◌≡◌ {A = ℕ} 0 1 = cc in omega arith)

module _ (W : World) (sets : List ℕ) (P : Pipes) (words : List ℕ) (place : ℕ) (r : Retirement) where
  pub only_retire : (kind : MoveKind) → Ok (Some r) ≡ (moved W sets P words (number_of kind) place).answer → eqb (number_of kind) 7 ≡ true
  only_retire Fetch e = absurd (let z : ◌≡◌ {A = ℕ} 0 1 = cc (given_by (refusal_of sets P 1 place) P words (accepted W sets P words Fetch place) r e) in omega arith)
  only_retire Raise e = absurd (let z : ◌≡◌ {A = ℕ} 0 1 = cc (given_by (refusal_of sets P 2 place) P words (accepted W sets P words Raise place) r e) in omega arith)
  only_retire Lower e = absurd (let z : ◌≡◌ {A = ℕ} 0 1 = cc (given_by (refusal_of sets P 3 place) P words (accepted W sets P words Lower place) r e) in omega arith)
  only_retire Execute e = absurd (let z : ◌≡◌ {A = ℕ} 0 1 = cc (given_by (refusal_of sets P 4 place) P words (accepted W sets P words Execute place) r e) in omega arith)
  only_retire Insert e = absurd (let z : ◌≡◌ {A = ℕ} 0 1 = cc (given_by (refusal_of sets P 5 place) P words (accepted W sets P words Insert place) r e) in omega arith)
  only_retire Read e = absurd (let z : ◌≡◌ {A = ℕ} 0 1 = cc (given_by (refusal_of sets P 6 place) P words (accepted W sets P words Read place) r e) in omega arith)
  only_retire Retire e = refl
  only_retire Drop e = absurd (let z : ◌≡◌ {A = ℕ} 0 1 = cc (given_by (refusal_of sets P 8 place) P words (accepted W sets P words Drop place) r e) in omega arith)

-- How far a run has come: some moves of the list are left, and the records of the others stand in
-- the log.
pub record Underway (W : World) (sets : List ℕ) (P : Pipes) (words : List ℕ) (ms : List Move) (old : Log Retirement) (left : List Move) (Q : Pipes) (ws : List ℕ) (f : RunFigures) (now : Log Retirement) : Type 0 where
  pub records : List Retirement
  pub ahead : ran_from W sets (record { pipes = Q; words = ws; accepted = f.accepted; turned_away = f.turned_away; live = records }) left ≡ ran W sets P words ms
  pub live : f.live ≡ length records
  pub logs : Logs old now records
  pub room_left : length records + retirements left ≤ room old
  pub made : f.accepted + f.turned_away + length left ≡ length ms
  pub few : f.live ≤ f.accepted

pub underway_none : {W : World} {sets : List ℕ} {P : Pipes} {words : List ℕ} {ms : List Move} {old now : Log Retirement} → retirements ms ≤ room old → now ≡ old →
    Underway W sets P words ms old ms P words (record { accepted = 0; turned_away = 0; live = 0 }) now
underway_none l same = record { records = []; ahead = refl; live = refl; logs = logs_none same; room_left = omega arith; made = omega arith; few = omega arith }

-- one turn: the next move, and what it answered and left
module _ {W : World} {sets : List ℕ} {P : Pipes} {words : List ℕ} {ms : List Move} {old : Log Retirement} {left rest : List Move} {m : Move} {Q : Pipes} {ws : List ℕ} {f : RunFigures} {now : Log Retirement}
    (u : Underway W sets P words ms old left Q ws f now) (next : left ≡ m ∷ rest) where
  fewer : retirements left ≡ cond (is_retire m) 1 0 + retirements rest
  fewer = ap retirements next ∙ sum_by-cons (λ (x : Move). cond {A = ℕ} (is_retire x) 1 0) m rest

  shorter : length left ≡ length rest + 1
  shorter = ap length next ∙ sym (add-one (length rest))

  -- only RETIRE gives a record
  one_each : (answer : Result (Option Retirement) MoveRefusal) → answer ≡ (moved W sets Q ws (number_of m.kind) m.place).answer → length (records_of answer) ≤ cond {A = ℕ} (is_retire m) 1 0
  one_each (Ok None) e = omega arith
  one_each (Ok (Some r)) e = let one = ap (λ (t : Bool). cond {A = ℕ} t 1 0) (only_retire W sets Q ws m.place r m.kind e) in omega (arith, one)
  one_each (Err refusal) e = omega arith

  module _ {d : Moved} (turn : d ≡ moved W sets Q ws (number_of m.kind) m.place) where
    given : length (records_of d.answer) ≤ cond {A = ℕ} (is_retire m) 1 0
    given = one_each d.answer (ap (λ (x : Moved). x.answer) turn)

    -- the log has a place for the record
    pub underway_free : length (records_of d.answer) ≤ room now
    underway_free =
        let held = logs_room u.logs (omega (arith, u.room_left)) in
        omega (arith, held, given, fewer, u.room_left)

    abbrev so_far : Tally
    so_far = record { pipes = Q; words = ws; accepted = f.accepted; turned_away = f.turned_away; live = u.records }

    onward : (answer : Result (Option Retirement) MoveRefusal) → d.answer ≡ answer → ran_from W sets (counted answer d.pipes d.words so_far) rest ≡ ran W sets P words ms
    onward answer e =
        ap (λ (a : Result (Option Retirement) MoveRefusal). ran_from W sets (counted a d.pipes d.words so_far) rest) (sym e)
        ∙ ap (λ (x : Moved). ran_from W sets (counted x.answer x.pipes x.words so_far) rest) turn
        ∙ ap (ran_from W sets so_far) (sym next)
        ∙ u.ahead

    after : {new : Log Retirement} (answer : Result (Option Retirement) MoveRefusal) → d.answer ≡ answer → length (records_of answer) ≤ cond {A = ℕ} (is_retire m) 1 0 → Logs now new (records_of answer) →
        Underway W sets P words ms old rest d.pipes d.words (figures_after answer f) new
    after (Ok None) e g l = record {
      records = u.records;
      ahead = onward (Ok None) e;
      live = u.live;
      logs = logs_nothing u.logs l;
      room_left = omega (arith, fewer, u.room_left);
      made = omega (arith, u.made, shorter);
      few = omega (arith, u.few);
    }
    after (Ok (Some r)) e g l =
        let more : length (u.records ++ (r ∷ [])) ≡ length u.records + 1 = length-append u.records (r ∷ []) in
        record {
          records = u.records ++ (r ∷ []);
          ahead = onward (Ok (Some r)) e;
          live = omega (arith, u.live, more);
          logs = logs_then u.logs l;
          room_left = omega (arith, fewer, u.room_left, g, more);
          made = omega (arith, u.made, shorter);
          few = omega (arith, u.few);
        }
    after (Err refusal) e g l = record {
      records = u.records;
      ahead = onward (Err refusal) e;
      live = u.live;
      logs = logs_nothing u.logs l;
      room_left = omega (arith, fewer, u.room_left);
      made = omega (arith, u.made, shorter);
      few = u.few;
    }

    pub underway_more : {new : Log Retirement} → Logs now new (records_of d.answer) → Underway W sets P words ms old rest d.pipes d.words (figures_after d.answer f) new
    underway_more l = after d.answer refl given l

-- a call of run, as its contract says it
module _ {W : World} {sets : List ℕ} {P : Pipes} {words : List ℕ} {ms : List Move} {old new : Log Retirement} where
  pub runs_over : {left : List Move} {Q : Pipes} {ws : List ℕ} {f : RunFigures} → retirements ms ≤ room old → left ≡ [] → Underway W sets P words ms old left Q ws f new →
      RunsTo (run_of W sets P words ms (room old)) Q ws old new (Ok f)
  runs_over {left} {Q} {ws} {f} l none u =
      let so_far : Tally = record { pipes = Q; words = ws; accepted = f.accepted; turned_away = f.turned_away; live = u.records } in
      let all = sym (ap (ran_from W sets so_far) none) ∙ u.ahead in
      subst (λ (R : Run). RunsTo R Q ws old new (Ok f)) (sym (cond-true (leb (retirements ms) (room old)) (finished (ran W sets P words ms)) (not_begun P words) (le-leb (retirements ms) (room old) l)))
      (record {
        value = ap (λ (n : ℕ). Ok (record { accepted = f.accepted; turned_away = f.turned_away; live = n })) u.live ∙ ap (λ (t : Tally). Ok (figures_of t)) all;
        pipes = ap (λ (t : Tally). t.pipes) all;
        words = ap (λ (t : Tally). t.words) all;
        logs = subst (λ (rs : List Retirement). Logs old new rs) (ap (λ (t : Tally). t.live) all) u.logs;
      })

module _ (W : World) (sets : List ℕ) (P : Pipes) (words : List ℕ) (ms : List Move) {old new : Log Retirement} where
  pub runs_refused : room old < retirements ms → new ≡ old → RunsTo (run_of W sets P words ms (room old)) P words old new (Err ShortLog)
  runs_refused l same =
      subst (λ (R : Run). RunsTo R P words old new (Err ShortLog)) (sym (cond-false (leb (retirements ms) (room old)) (finished (ran W sets P words ms)) (not_begun P words) (lt-leb (retirements ms) (room old) l)))
      (record { value = refl; pipes = refl; words = refl; logs = logs_none same })

-- a refused run does nothing
pub run_refused : (W : World) (sets : List ℕ) (P : Pipes) (words : List ℕ) (ms : List Move) (room : ℕ) (f : RunRefusal) → Err f ≡ (run_of W sets P words ms room).answer →
    run_of W sets P words ms room ≡ not_begun P words
run_refused W sets P words ms room f = by (leb (retirements ms) room)
  where
    by : (b : Bool) → Err f ≡ (cond b (finished (ran W sets P words ms)) (not_begun P words)).answer → cond b (finished (ran W sets P words ms)) (not_begun P words) ≡ not_begun P words
    by true e = absurd (let z : ◌≡◌ {A = ℕ} 0 1 = cc in omega arith)
    by false e = refl
