-- A drain in code: the moves so far, and the log that has them.
use Rattle.std.proofs.Common.{◌≡◌, ℕ, ◌+◌, ◌<◌, ◌≤◌, true, false, List, [], ◌∷◌, ◌++◌, length, Some, None, Ok, Err, Option, Result, sym, refl, ap, ◌∙◌, subst, arith, length-append}
use Rattle.std.proofs.lemmas.Bool.{lt-leb, le-leb}
use Rattle.bounded_log.specs.declared.places.Log.{Log}
use Rattle.bounded_log.specs.Room.{room, added_if, Logs}
use Rattle.effect.specs.declared.actions.Retirement.{Retirement}
use Rattle.effect.specs.Effects.{Table}
use Rattle.layout.specs.declared.layouts.Layout.{Layout}
use Rattle.layout.specs.Meaning.{sets_in}
use Rattle.moves.specs.declared.kinds.Move.{Move}
use Rattle.moves.specs.Decoding.{number_of}
use Rattle.fit.specs.Fitting.{All, placed}
use Rattle.stepper.specs.Machine.{World}
use Rattle.pipes.specs.declared.answers.DrainRefusal.{DrainRefusal}
use Rattle.pipes.specs.declared.answers.DrainRefusal.TheVariants.{Halted, ShortLog}
use Rattle.pipes.specs.declared.answers.MoveRefusal.{MoveRefusal}
use Rattle.pipes.specs.declared.state.Pipes.{Pipes}
use Rattle.pipes.specs.Moving.{Moved, moved}
use Rattle.pipes.specs.Draining.{bound, drain_refusal, Drains, DrainsIf, moves_between, DrainsTo}
use Rattle.bounded_log.proofs.Logged.{logs_none, logs_one, logs_then, logs_since, logs_room}
use Rattle.draining.specs.Sound.{Sound}
use Rattle.draining.specs.Policy.{chosen}
use Rattle.draining.specs.Measure.{μ}
use Rattle.draining.specs.Reaching.{Reached}
use Rattle.draining.proofs.Reaching.{reached_none, never_refused, has_room, reached_falls, reached_more, reached_last}
use Rattle.agreement.specs.Layouts.{Laid}
use Rattle.agreement.proofs.Layouts.{read_laid}
use Rattle.pipeline.specs.declared.pipelines.Pipeline.{Pipeline}
use Rattle.pipeline.specs.Calls.{move_made}
use Rattle.pipeline.specs.Views.{pipes_in, stages_in, world_in, SameMachine}
use Rattle.pipeline.proofs.Turns.{turned}

-- the two questions of a drain
module _ (sets : List ℕ) (P : Pipes) (free : ℕ) where
  pub refusal_halted : P.halted ≡ true → drain_refusal sets P free ≡ Some Halted
  refusal_halted h = rw h

  pub refusal_short : P.halted ≡ false → free < bound (length sets) → drain_refusal sets P free ≡ Some ShortLog
  refusal_short h l = let e = lt-leb (bound (length sets)) free l in rw (h, e)

  refusal_none : P.halted ≡ false → bound (length sets) ≤ free → drain_refusal sets P free ≡ None
  refusal_none h l = let e = le-leb (bound (length sets)) free l in rw (h, e)

-- a refused drain
pub drains_not : (W : World) (sets : List ℕ) (P : Pipes) (words : List ℕ) {old new : Log Move} {f : DrainRefusal} → drain_refusal sets P (room old) ≡ Some f → new ≡ old → DrainsTo W sets P words P words old new (Err f)
drains_not W sets P words {old} {new} {f} e same =
    let none = logs_since (logs_none same) in
    record {
      drained = subst (λ (o : Option DrainRefusal). DrainsIf W sets P words (moves_between old new) P words o (Err f)) (sym e) (refl, none, refl, refl);
      logs = subst (λ (ms : List Move). Logs old new ms) (sym none) (logs_none same);
    }

-- how far a drain has come, with its log
pub record Drawing (W : World) (sets : List ℕ) (P : Pipes) (words : List ℕ) (old : Log Move) (made : ℕ) (Q : Pipes) (ws : List ℕ) (now : Log Move) : Type 0 where
  pub moves : List Move
  pub reached : Reached W sets P words moves Q ws
  pub logs : Logs old now moves
  pub counted : made ≡ length moves
  pub enough : bound (length sets) ≤ room old
  pub runs : P.halted ≡ false

pub drawing_none : {W : World} {sets : List ℕ} {P : Pipes} {words : List ℕ} {old now : Log Move} → Sound sets P → P.halted ≡ false → bound (length sets) ≤ room old → now ≡ old → Drawing W sets P words old 0 P words now
drawing_none {W} {sets} {P} {words} sound runs enough same = record { moves = []; reached = reached_none W sets P words sound runs; logs = logs_none same; counted = refl; enough = enough; runs = runs }

-- a turn of a drain: the policy's choice, and what it answers and leaves
pub record Turn (W : World) (sets : List ℕ) (P : Pipes) (words : List ℕ) (old : Log Move) (made : ℕ) (Q : Pipes) (ws : List ℕ) (now : Log Move) (m : Move) (d : Moved) : Type 0 where
  fit : All (placed sets) W.program
  laid : Laid sets
  drawing : Drawing W sets P words old made Q ws now
  chose : m ≡ chosen sets Q
  turn : d ≡ moved W sets Q ws (number_of m.kind) m.place

pub turn_of : (table : Table) {before now : Pipeline} {words ws : List ℕ} {old log : Log Move} {made : ℕ} {m : Move} {d : Moved} → SameMachine before now →
    Drawing (world_in before table) (stages_in before) (pipes_in before) words old made (pipes_in now) ws log → m ≡ chosen (stages_in now) (pipes_in now) → d ≡ move_made table now ws (number_of m.kind) m.place →
    Turn (world_in before table) (stages_in before) (pipes_in before) words old made (pipes_in now) ws log m d
turn_of table {before} {now} {ws = ws} {m = m} same drawing chose made = record {
  fit = before.fits;
  laid = read_laid before.layout;
  drawing = drawing;
  chose = chose ∙ ap (λ (l : Layout). chosen (sets_in l) now.pipes) same.layout;
  turn = turned table ws m same made;
}

module _ {W : World} {sets : List ℕ} {P : Pipes} {words : List ℕ} {old : Log Move} {made : ℕ} {Q : Pipes} {ws : List ℕ} {now : Log Move} {m : Move} {d : Moved} (t : Turn W sets P words old made Q ws now m d) where
  pipes : d.pipes ≡ (moved W sets Q ws (number_of m.kind) m.place).pipes
  pipes = ap (λ (x : Moved). x.pipes) t.turn

  left : d.words ≡ (moved W sets Q ws (number_of m.kind) m.place).words
  left = ap (λ (x : Moved). x.words) t.turn

  answer : {a : Result (Option Retirement) MoveRefusal} → d.answer ≡ a → (moved W sets Q ws (number_of m.kind) m.place).answer ≡ a
  answer e = sym (ap (λ (x : Moved). x.answer) t.turn) ∙ e

  -- the choice is never turned away
  pub never : {f : MoveRefusal} → d.answer ≡ Err f → ⊥
  never {f} e = never_refused W sets P words t.drawing.moves Q ws m _ _ t.fit t.laid.low t.laid.high t.drawing.reached t.chose pipes left f (answer e)

  few : length t.drawing.moves < bound (length sets)
  few = has_room W sets P words t.drawing.moves Q ws m _ _ t.fit t.laid.low t.laid.high t.drawing.reached t.chose pipes left

  pub drawing_falls : d.answer ≡ Ok None → μ sets d.pipes < μ sets Q
  drawing_falls e = reached_falls W sets P words t.drawing.moves Q ws m _ _ t.fit t.laid.low t.laid.high t.drawing.reached t.chose pipes left (answer e)

  more : made + 1 ≡ length (t.drawing.moves ++ (m ∷ []))
  more = omega (arith, t.drawing.counted, length-append t.drawing.moves (m ∷ []))

  -- the log after the move is added
  module _ {new : Log Move} (added : Logs now new (added_if now m)) where
    logs : Logs old new (t.drawing.moves ++ (m ∷ []))
    logs =
        let held = logs_room t.drawing.logs (omega (arith, few, t.drawing.enough)) in
        logs_then t.drawing.logs (logs_one m (omega (arith, held, few, t.drawing.enough)) added)

    pub drawing_more : d.answer ≡ Ok None → Drawing W sets P words old (made + 1) d.pipes d.words new
    drawing_more e = record {
      moves = t.drawing.moves ++ (m ∷ []);
      reached = reached_more W sets P words t.drawing.moves Q ws m _ _ t.fit t.laid.low t.laid.high t.drawing.reached t.chose pipes left (answer e);
      logs = logs;
      counted = more;
      enough = t.drawing.enough;
      runs = t.drawing.runs;
    }

    pub drains_last : {r : Retirement} → d.answer ≡ Ok (Some r) → DrainsTo W sets P words d.pipes d.words old new (Ok (record { moves = made + 1; retirement = r }))
    drains_last {r} e =
        let done = reached_last W sets P words t.drawing.moves Q ws m _ _ t.fit t.laid.low t.laid.high t.drawing.reached t.chose pipes left r (answer e) in
        let all = logs_since logs in
        let asked = refusal_none sets P (room old) t.drawing.runs t.drawing.enough in
        record {
          drained =
              subst (λ (ms : List Move). Drains W sets P words ms d.pipes d.words (room old) (Ok (record { moves = made + 1; retirement = r }))) (sym all)
              (subst (λ (o : Option DrainRefusal). DrainsIf W sets P words (t.drawing.moves ++ (m ∷ [])) d.pipes d.words o (Ok (record { moves = made + 1; retirement = r }))) (sym asked) (more, done));
          logs = subst (λ (ms : List Move). Logs old new ms) (sym all) logs;
        }
