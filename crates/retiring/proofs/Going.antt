-- Drains so far, in code: what one more of them adds.
use Rattle.std.proofs.Common.{◌≡◌, ℕ, ◌+◌, ◌*◌, ◌≤◌, Bool, true, false, cond, List, [], ◌∷◌, ◌++◌, length, max, Some, None, Ok, Err, Result, nat_le, sym, refl, ap, ◌∙◌, subst, arith, length-append}
use Rattle.std.proofs.lemmas.Bool.{le-leb}
use Rattle.bounded_log.specs.declared.places.Log.{Log}
use Rattle.std.proofs.Math.Nat.{mul-le-mul}
use Rattle.bounded_log.specs.Room.{places_in, count_in, room, Logs}
use Rattle.bounded_log.proofs.Logged.{logs_none, logs_then, logs_room}
use Rattle.image.specs.declared.images.Image.{Image}
use Rattle.layout.specs.declared.layouts.Layout.{Layout}
use Rattle.layout.specs.Meaning.{sets_in}
use Rattle.effect.specs.Effects.{Table}
use Rattle.stepper.specs.View.{world_of}
use Rattle.pipeline.specs.declared.pipelines.Pipeline.{Pipeline}
use Rattle.pipeline.specs.Views.{image_in, pipes_in, stages_in, world_in, SameMachine}
use Rattle.moves.specs.declared.kinds.Move.{Move}
use Rattle.stepper.specs.Machine.{World}
use Rattle.pipes.specs.declared.answers.Drain.{Drain}
use Rattle.pipes.specs.declared.answers.DrainRefusal.{DrainRefusal}
use Rattle.pipes.specs.declared.answers.DrainRefusal.TheVariants.{Halted, ShortLog}
use Rattle.pipes.specs.declared.state.Pipes.{Pipes}
use Rattle.pipes.specs.Draining.{bound, Drained, DrainsIf, Drains, DrainsTo}
use Rattle.retiring.specs.Drains.{most_of, Sequence, DrainsOn}

-- what a drain's answer tells of its questions
module _ (W : World) (sets : List ℕ) (P : Pipes) (words : List ℕ) (moves : List Move) (P' : Pipes) (words' : List ℕ) where
  ok_of : (d : Drain) (b c : Bool) → DrainsIf W sets P words moves P' words' (cond b (Some Halted) (cond c None (Some ShortLog))) (Ok d)
      → (b ≡ false) × (d.moves ≡ length moves) × Drained W sets P words moves d.retirement P' words'
  ok_of d true c h = absurd h
  ok_of d false true h = (refl, h.0, h.1)
  ok_of d false false h = absurd h

  err_of : (f : DrainRefusal) (b c : Bool) → c ≡ true → DrainsIf W sets P words moves P' words' (cond b (Some Halted) (cond c None (Some ShortLog))) (Err f)
      → (b ≡ true) × (P' ≡ P) × (words' ≡ words)
  err_of f true c e h = (refl, h.2, h.3)
  err_of f false true e h = absurd h
  err_of f false false e h = absurd (let z : ◌≡◌ {A = ℕ} 0 1 = cc in omega arith)

  pub drained_ok : (free : ℕ) (d : Drain) → Drains W sets P words moves P' words' free (Ok d) → (P.halted ≡ false) × (d.moves ≡ length moves) × Drained W sets P words moves d.retirement P' words'
  drained_ok free d h = ok_of d P.halted (nat_le (bound (length sets)) free) h

  pub drained_err : (free : ℕ) (f : DrainRefusal) → bound (length sets) ≤ free → Drains W sets P words moves P' words' free (Err f) → (P.halted ≡ true) × (P' ≡ P) × (words' ≡ words)
  drained_err free f l h = err_of f P.halted (nat_le (bound (length sets)) free) (le-leb (bound (length sets)) free l) h

pub most_more : (ds : List Drain) (d : Drain) → most_of (ds ++ (d ∷ [])) ≡ max (most_of ds) d.moves
most_more [] d = grind arith
most_more (x ∷ ds) d = let later = most_more ds d in grind (arith, later)

-- drains so far, with their log
pub record Going (W : World) (sets : List ℕ) (P : Pipes) (words : List ℕ) (old : Log Drain) (Q : Pipes) (ws : List ℕ) (now : Log Drain) (most made : ℕ) : Type 0 where
  pub drains : List Drain
  pub sequence : Sequence W sets P words drains Q ws
  pub logs : Logs old now drains
  pub most_is : most ≡ most_of drains
  pub count_is : made ≡ length drains

pub going_none : {W : World} {sets : List ℕ} {P : Pipes} {words : List ℕ} {old : Log Drain} → Going W sets P words old P words old 0 0
going_none {W} {sets} {P} {words} {old} = record { drains = []; sequence = Sequence.none; logs = logs_none refl; most_is = refl; count_is = refl }

module _ {W : World} {sets : List ℕ} {P : Pipes} {words : List ℕ} {old : Log Drain} {Q : Pipes} {ws : List ℕ} {now : Log Drain} {most made : ℕ} (g : Going W sets P words old Q ws now most made) where
  -- one more
  pub going_more : (d : Drain) (moves : List Move) (Q' : Pipes) (ws' : List ℕ) {new : Log Drain} → (Q.halted ≡ false) × (d.moves ≡ length moves) × Drained W sets Q ws moves d.retirement Q' ws' → Logs now new (d ∷ []) →
      Going W sets P words old Q' ws' new (max most d.moves) (made + 1)
  going_more d moves Q' ws' h l = record {
    drains = g.drains ++ (d ∷ []);
    sequence = Sequence.more g.sequence h.0 d moves Q' ws' h.1 h.2;
    logs = logs_then g.logs l;
    most_is = ap (λ (m : ℕ). max m d.moves) g.most_is ∙ sym (most_more g.drains d);
    count_is = omega (arith, g.count_is, length-append g.drains (d ∷ []));
  }

  -- all that the log has room for
  pub going_full : made ≡ room old → DrainsOn W sets P words Q ws old now most
  going_full e = record {
    drains = g.drains;
    made = g.sequence;
    logs = g.logs;
    most_is = g.most_is;
    within = omega (arith, e, g.count_is);
    until = λ h. sym g.count_is ∙ e;
  }

  -- halted before
  pub going_halted : made ≤ room old → Q.halted ≡ true → DrainsOn W sets P words Q ws old now most
  going_halted l h = record {
    drains = g.drains;
    made = g.sequence;
    logs = g.logs;
    most_is = g.most_is;
    within = omega (arith, l, g.count_is);
    until = λ n. absurd (let z : true ≡ false = sym h ∙ n in cc);
  }

-- a pipeline has at most sixteen stages, so a drain makes at most 584 moves
pub bound_most : (n : ℕ) → n ≤ 16 → bound n ≤ 584
bound_most n l = let square : n * n ≤ 16 * 16 = mul-le-mul l l in omega (arith, square)

-- a drain's answer on the machine that the drains began with
module _ (table : Table) {before now : Pipeline} {ws : List ℕ} {Q' : Pipes} {ws' : List ℕ} {old new : Log Move} {answer : Result Drain DrainRefusal} (same : SameMachine before now) where
  pub on_same : DrainsTo (world_in now table) (stages_in now) (pipes_in now) ws Q' ws' old new answer → DrainsTo (world_in before table) (stages_in before) (pipes_in now) ws Q' ws' old new answer
  on_same h =
      subst (λ (i : Image). DrainsTo (world_of table i) (stages_in before) (pipes_in now) ws Q' ws' old new answer) same.image
      (subst (λ (l : Layout). DrainsTo (world_of table (image_in now)) (sets_in l) (pipes_in now) ws Q' ws' old new answer) same.layout h)

-- a log of moves that was cleared has room for a drain, and keeps its places
pub cleared_room : (log : Log Move) → count_in log ≡ 0 → length (places_in log) ≡ 584 → room log ≡ 584
cleared_room log clear wide = omega (arith, clear, wide)

pub drained_wide : (old new : Log Move) {moves : List Move} → count_in old ≡ 0 → length (places_in old) ≡ 584 → Logs old new moves → length moves ≤ 584 → length (places_in new) ≡ 584
drained_wide old new clear wide l few = omega (arith, logs_room l (omega (arith, few, clear, wide)), l.count, new.within, clear, wide, few)
