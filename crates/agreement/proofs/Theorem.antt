-- Every succession of calls follows the sequential machine, and what comes of it.
use Rattle.std.proofs.Common.{◌≡◌, ℕ, zero, suc, ◌≤◌, false, cond, leb, List, [], ◌∷◌, ◌++◌, length, Ok, Err, Result, sym, refl, ap, ◌∙◌, subst, append-nil, arith}
use Rattle.std.proofs.lemmas.Bool.{cond_both}
use Rattle.std.proofs.lemmas.Bool.Decides.{nat_tests}
use Rattle.instruction.specs.declared.instructions.Instruction.{Instruction}
use Rattle.effect.specs.declared.actions.Effect.{Effect}
use Rattle.effect.specs.declared.actions.Retirement.{Retirement}
use Rattle.effect.specs.Effects.{Table}
use Rattle.moves.specs.declared.kinds.Move.{Move}
use Rattle.stepper.specs.Machine.{World, State, start, stepped, retired, effect_at, found_at, sources_of, applied, execution, records}
use Rattle.pipes.specs.declared.answers.Drain.{Drain}
use Rattle.pipes.specs.declared.answers.DrainRefusal.{DrainRefusal}
use Rattle.pipes.specs.declared.state.Pipes.{Pipes}
use Rattle.pipes.specs.Draining.{bound, Drained, Drains}
use Rattle.pipes.specs.Running.{Run, ran, run_of, retirements, finished, not_begun}
use Rattle.agreement.specs.Walk.{Agrees}
use Rattle.agreement.specs.Layouts.{Laid}
use Rattle.agreement.specs.Successions.{told, Succession, built, move, run, drain, drawn}
use Rattle.agreement.specs.Following.{Follows}
use Rattle.agreement.specs.Statement.{Alike, world, Sequential, Agreement, DrainsNext}
use Rattle.agreement.proofs.Facts.{effect_alike}
use Rattle.agreement.proofs.Runs.{fresh_agrees, follows_on, follows_none, moved_follows, ran_keeps}

-- what a drain tells
module _ (W : World) (sets : List ℕ) (P : Pipes) (words : List ℕ) (moves : List Move) (P' : Pipes) (words' : List ℕ) (room : ℕ) where
  drains_ok : (d : Drain) → Drains W sets P words moves P' words' room (Ok d) → (d.moves ≡ length moves) × Drained W sets P words moves d.retirement P' words'
  drains_ok d h = grind arith

  drains_err : (e : DrainRefusal) → Drains W sets P words moves P' words' room (Err e) → (P' ≡ P) × (words' ≡ words)
  drains_err e h = grind arith

  drains_not : (e : DrainRefusal) → P.halted ≡ false → bound (length sets) ≤ room → Drains W sets P words moves P' words' room (Err e) → ⊥
  drains_not e g l h = grind (arith, nat_tests)

module _ (W : World) (sets : List ℕ) (laid : Laid sets) where
  run_follows : (S : State) (P : Pipes) (words : List ℕ) (rs : List Retirement) (moves : List Move) (room : ℕ) → Follows W sets S P words rs →
      Follows W sets S (run_of W sets P words moves room).pipes (run_of W sets P words moves room).words (rs ++ (run_of W sets P words moves room).live)
  run_follows S P words rs moves room f =
      let T = execution W (length rs) S in
      let t = ran W sets P words moves in
      cond_both (leb (retirements moves) room) (finished t) (not_begun P words) (λ (u : Run). Follows W sets S u.pipes u.words (rs ++ u.live))
      (λ _. follows_on W sets S P t.pipes words t.words rs t.live f (ran_keeps W sets laid T P words moves f.agrees))
      (λ _. rw (append-nil rs) f)

  -- the record of a drain is the next
  drained_follows : (T : State) (P P' : Pipes) (words words' : List ℕ) (moves : List Move) (r : Retirement) → Agrees W sets T P words →
      Drained W sets P words moves r P' words' → Follows W sets T P' words' (r ∷ [])
  drained_follows T P P' words words' moves r a d =
      let t = ran W sets P words moves in
      subst (λ x. Follows W sets T x words' (r ∷ [])) d.leads
      (subst (λ x. Follows W sets T t.pipes x (r ∷ [])) d.leaves
      (subst (λ x. Follows W sets T t.pipes t.words x) d.one (ran_keeps W sets laid T P words moves a)))

  drain_follows : (S : State) (P P' : Pipes) (words words' : List ℕ) (rs : List Retirement) (moves : List Move) (room : ℕ) (answer : Result Drain DrainRefusal) →
      Follows W sets S P words rs → Drains W sets P words moves P' words' room answer → Follows W sets S P' words' (rs ++ told (drawn answer))
  drain_follows S P P' words words' rs moves room (Ok d) f h =
      follows_on W sets S P P' words words' rs (d.retirement ∷ []) f
      (drained_follows (execution W (length rs) S) P P' words words' moves d.retirement f.agrees (drains_ok W sets P words moves P' words' room d h).1)
  drain_follows S P P' words words' rs moves room (Err e) f h =
      let q = drains_err W sets P words moves P' words' room e h in
      subst (λ x. Follows W sets S x words' (rs ++ [])) (sym q.0) (subst (λ x. Follows W sets S P x (rs ++ [])) (sym q.1) (rw (append-nil rs) f))

  pub succession_follows : (first : List ℕ) (P : Pipes) (words : List ℕ) (rs : List Retirement) → Succession W sets first P words rs → Follows W sets (start first) P words rs
  succession_follows first P words rs built = follows_none W sets (start first) P words (fresh_agrees W sets first laid)
  succession_follows first P words rs (move {P = P₀} {words = words₀} {rs = rs₀} s kind place) =
      moved_follows W sets laid (start first) P₀ words₀ rs₀ kind place (succession_follows first P₀ words₀ rs₀ s)
  succession_follows first P words rs (run {P = P₀} {words = words₀} {rs = rs₀} s moves room) =
      run_follows (start first) P₀ words₀ rs₀ moves room (succession_follows first P₀ words₀ rs₀ s)
  succession_follows first P words rs (drain {P = P₀} {words = words₀} {rs = rs₀} s room answer moves P' words' d) =
      drain_follows (start first) P₀ P' words₀ words' rs₀ moves room answer (succession_follows first P₀ words₀ rs₀ s) d

-- machines whose tables are alike do alike
module _ (table other : Table) (alike : Alike table other) where
  module _ (program : List Instruction) (handler : ℕ) where
    abbrev V : World
    V = world table program handler

    abbrev W : World
    W = world other program handler

    at_alike : (S : State) → effect_at V S ≡ effect_at W S
    at_alike S = effect_alike table other alike S.words handler S.place (sources_of S.registers (found_at V S)) (found_at V S)

    stepped_alike : (S : State) → stepped V S ≡ stepped W S
    stepped_alike S = ap (λ (e : Effect). cond S.halted S (applied e S)) (at_alike S)

    execution_alike : (n : ℕ) (S : State) → execution V n S ≡ execution W n S
    execution_alike zero S = refl
    execution_alike (suc n) S = execution_alike n (stepped V S) ∙ ap (λ T. execution W n T) (stepped_alike S)

    records_alike : (n : ℕ) (S : State) → records V n S ≡ records W n S
    records_alike zero S = refl
    records_alike (suc n) S =
        let r : retired V S ≡ retired W S = ap (λ (e : Effect). record { place = S.place; action = e.action }) (at_alike S) in
        let q : records V n (stepped V S) ≡ records W n (stepped W S) = records_alike n (stepped V S) ∙ ap (λ T. records W n T) (stepped_alike S) in
        rw (r, q)

sequential : (W : World) (sets : List ℕ) (first : List ℕ) (P : Pipes) (words : List ℕ) (rs : List Retirement) → Follows W sets (start first) P words rs →
    Sequential W first P words rs
sequential W sets first P words rs f =
    record { registers_are = f.agrees.same_registers; words_are = f.agrees.same_words; mark_is = f.agrees.same_mark; records_are = f.same_records }

pub agreement : Agreement
agreement table other program handler alike sets sets' laid laid' first P P' words words' rs rs' s s' n =
    let V = world table program handler in
    let W = world other program handler in
    let x = sequential V sets first P words rs (succession_follows V sets laid first P words rs s) in
    let y = sequential W sets' first P' words' rs' (succession_follows W sets' laid' first P' words' rs' s') in
    let e : execution V (length rs) (start first) ≡ execution W (length rs') (start first)
    = execution_alike table other alike program handler (length rs) (start first) ∙ ap (λ k. execution W k (start first)) n in
    let r : records V (length rs) (start first) ≡ records W (length rs') (start first)
    = records_alike table other alike program handler (length rs) (start first) ∙ ap (λ k. records W k (start first)) n in (
      record {
        same_registers = x.registers_are ∙ (ap (λ (S : State). S.registers) e ∙ sym y.registers_are);
        same_words = x.words_are ∙ (ap (λ (S : State). S.words) e ∙ sym y.words_are);
        same_mark = x.mark_is ∙ (ap (λ (S : State). S.halted) e ∙ sym y.mark_is);
        same_records = x.records_are ∙ (r ∙ sym y.records_are);
      },
      x,
      y,
    )

pub drains_next : DrainsNext
drains_next W sets laid first P words rs s going room l (Err e) moves P' words' d = drains_not W sets P words moves P' words' room e going l d
drains_next W sets laid first P words rs s going room l (Ok d) moves P' words' h =
    let q = drains_ok W sets P words moves P' words' room d h in
    let T = execution W (length rs) (start first) in
    let f = succession_follows W sets laid first P words rs s in
    let k = drained_follows W sets laid T P P' words words' moves d.retirement f.agrees q.1 in
    let live : T.halted ≡ false = sym f.agrees.same_mark ∙ going in
    let r : d.retirement ∷ [] ≡ retired W T ∷ [] = k.same_records ∙ ap (λ b. cond b [] (retired W T ∷ [])) live in
    (q.0, q.1, cc)
