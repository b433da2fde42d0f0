-- What was read, fitted and drained, put together: the drains are a succession of calls, so their records are
-- those of the execution.
use Rattle.std.proofs.Common.{◌≡◌, ℕ, ◌+◌, ◌-◌, ◌*◌, ◌≤◌, Bool, true, false, List, [], ◌∷◌, ◌++◌, length, take, drop, None, Option, Ok, Err, IsErrAnd, Result, sym, refl, ap, ◌∙◌, subst, append-nil, arith, take-append-drop}
use Rattle.std.proofs.lemmas.Bool.{le-leb}
use Rattle.std.proofs.lemmas.List.{length-map, map-append}
use Rattle.bounded_log.specs.declared.places.Log.{Log}
use Rattle.bounded_log.specs.Room.{room}
use Rattle.bounded_log.proofs.Logged.{logs_room}
use Rattle.effect.specs.declared.actions.Retirement.{Retirement}
use Rattle.effect.specs.Effects.{Table}
use Rattle.image.specs.declared.images.Image.{Image}
use Rattle.image.specs.Meaning.{program}
use Rattle.layout.specs.declared.layouts.Layout.{Layout}
use Rattle.layout.specs.Meaning.{sets_in}
use Rattle.job.specs.declared.faults.JobFault.{JobFault}
use Rattle.job.specs.Meaning.{pair_told}
use Rattle.job.specs.Reading.{Core}
use Rattle.fit.specs.declared.pairs.Fitted.{Fitted}
use Rattle.checking.specs.declared.answers.CheckFault.{CheckFault}
use Rattle.checking.specs.Checked.{CoreFittedAs}
use Rattle.stepper.specs.Machine.{World, State, start, execution, records}
use Rattle.stepper.proofs.Executions.{halted_stays, halted_records, execution_more, records_more}
use Rattle.pipes.specs.declared.answers.Drain.{Drain}
use Rattle.pipes.specs.declared.answers.DrainRefusal.{DrainRefusal}
use Rattle.pipes.specs.declared.state.Pipes.{Pipes}
use Rattle.pipes.specs.Draining.{bound, drain_refusal, Drains, DrainsIf}
use Rattle.pipes.specs.Moving.{fresh}
use Rattle.agreement.specs.Successions.{Succession}
use Rattle.agreement.specs.Statement.{Sequential}
use Rattle.pipeline.specs.declared.pipelines.Pipeline.{Pipeline}
use Rattle.pipeline.specs.Theorem.{NeverParted}
use Rattle.pipeline.specs.Views.{image_in, layout_in, pipes_in, stages_in, world_in}
use Rattle.checking.proofs.Errors.{err_is}
use Rattle.retiring.specs.declared.answers.CoreDrained.{CoreDrained}
use Rattle.retiring.specs.Drains.{records_of, most_of, Sequence, DrainsOn}
use Rattle.retiring.specs.Cores.{CoreDrains, CoreDrainsOn}
use Rattle.retiring.proofs.Going.{most_more}

-- a core that is refused
module _ (table : Table) (known : ℕ) (words : List ℕ) (log : Log Drain) where
  refused_so : (read : Result Core JobFault) (f : CheckFault) → CoreFittedAs known read (Err f) → CoreDrains table known read words words log log (Err f)
  refused_so (Ok core) f h = (h, refl, refl)
  refused_so (Err e) f h = (h, refl, refl)

  pub refused : (read : Result Core JobFault) (f : CheckFault) (r : Result CoreDrained CheckFault) → CoreFittedAs known read (Err f) → IsErrAnd r (λ e. e ≡ f) → CoreDrains table known read words words log log r
  refused read f r h e = subst (λ (x : Result CoreDrained CheckFault). CoreDrains table known read words words log log x) (sym (err_is r f e)) (refused_so read f h)

module _ (W : World) (sets first : List ℕ) where
  -- drains one after another are a succession of calls
  succession : (ds : List Drain) (Q : Pipes) (ws : List ℕ) → Sequence W sets fresh first ds Q ws → Succession W sets first Q ws (records_of ds)
  succession ds Q ws Sequence.none = Succession.built
  succession ds Q ws (Sequence.more {ds = es} {Q = R} {ws = vs} s runs d moves Q' ws' n h) =
      let enough = le-leb (bound (length sets)) (bound (length sets)) (omega arith) in
      let asked : drain_refusal sets R (bound (length sets)) ≡ None = rw (runs, enough) in
      let call : Drains W sets R vs moves Q' ws' (bound (length sets)) (Ok d) = subst (λ (o : Option DrainRefusal). DrainsIf W sets R vs moves Q' ws' o (Ok d)) (sym asked) (n, h) in
      subst (λ (rs : List Retirement). Succession W sets first Q ws rs) (sym (map-append (λ (x : Drain). x.retirement) es (d ∷ [])))
      (Succession.drain (succession es R vs s) (bound (length sets)) (Ok d) moves Q' ws' call)

  most_few : (ds : List Drain) (Q : Pipes) (ws : List ℕ) → Sequence W sets fresh first ds Q ws → most_of ds ≤ bound (length sets)
  most_few ds Q ws Sequence.none = omega arith
  most_few ds Q ws (Sequence.more {ds = es} {Q = R} {ws = vs} s runs d moves Q' ws' n h) =
      let few = h.few in
      let before = most_few es R vs s in
      let is = most_more es d in
      grind (arith, few, before, is, n)

-- an execution that has come so far, and further where it has not halted
module _ (W : World) (S : State) (k n : ℕ) (l : k ≤ n) (until : (execution W k S).halted ≡ false → k ≡ n) where
  by_mark : (b : Bool) → (execution W k S).halted ≡ b → (execution W n S ≡ execution W k S) × (records W n S ≡ records W k S)
  by_mark false h = let e = until h in (ap (λ (m : ℕ). execution W m S) (sym e), ap (λ (m : ℕ). records W m S) (sym e))
  by_mark true h =
      let all : n ≡ k + (n - k) = omega arith in (
        ap (λ (m : ℕ). execution W m S) all ∙ execution_more W k (n - k) S ∙ halted_stays W (n - k) (execution W k S) h,
        ap (λ (m : ℕ). records W m S) all ∙ records_more W k (n - k) S ∙ ap (λ (rs : List Retirement). records W k S ++ rs) (halted_records W (n - k) (execution W k S) h) ∙ append-nil (records W k S),
      )

  reached : (execution W n S ≡ execution W k S) × (records W n S ≡ records W k S)
  reached = by_mark (execution W k S).halted refl

abbrev told_of : ℕ → ℕ → ℕ → Bool → ℕ → ℕ → CoreDrained
told_of records stages drained halted most bound = record { records = records; stages = stages; drained = drained; halted = halted; most = most; bound = bound }

told_same : (a a' b b' c c' : ℕ) (h h' : Bool) (m m' n n' : ℕ) → a ≡ a' → b ≡ b' → c ≡ c' → h ≡ h' → m ≡ m' → n ≡ n' → told_of a b c h m n ≡ told_of a' b' c' h' m' n'
told_same a a' b b' c c' h h' m m' n n' p q r s t u = cc

-- a pipeline that was built, and drained
module _ (table : Table) (p : Pipeline) (words words' : List ℕ) (old new : Log Drain) (P' : Pipes) (most : ℕ) (parted : NeverParted (image_in p) (layout_in p)) (built : pipes_in p ≡ fresh)
    (beyond : drop 65536 words' ≡ drop 65536 words)
    (on : DrainsOn (world_in p table) (stages_in p) (pipes_in p) (take 65536 words) P' (take 65536 words') old new most) where
  abbrev W : World
  W = world_in p table

  abbrev S : State
  S = start (take 65536 words)

  sequence : Sequence W (stages_in p) fresh (take 65536 words) on.drains P' (take 65536 words')
  sequence = subst (λ (P : Pipes). Sequence W (stages_in p) P (take 65536 words) on.drains P' (take 65536 words')) built on.made

  abbrev rs : List Retirement
  rs = records_of on.drains

  many : length rs ≡ length on.drains
  many = length-map on.drains (λ (d : Drain). d.retirement)

  calls : Succession W (stages_in p) (take 65536 words) P' (take 65536 words') rs
  calls = succession W (stages_in p) (take 65536 words) on.drains P' (take 65536 words') sequence

  sequential : Sequential W (take 65536 words) P' (take 65536 words') rs
  sequential = (parted (layout_in p) table table (λ o a b l m n. refl) (take 65536 words) P' P' (take 65536 words') (take 65536 words') rs rs calls calls refl).1

  full : (execution W (length rs) S).halted ≡ false → length rs ≡ room old
  full h = many ∙ on.until (sequential.mark_is ∙ h)

  at_end : (execution W (room old) S ≡ execution W (length rs) S) × (records W (room old) S ≡ records W (length rs) S)
  at_end = reached W S (length rs) (room old) (omega (arith, many, on.within)) full

  pub drained_core : (records_is stages_is : ℕ) (halted : Bool) → records_is ≡ length (program (image_in p)) → stages_is ≡ length (stages_in p) → halted ≡ P'.halted →
      CoreDrainsOn table (pair_told (image_in p) (layout_in p)) words words' old new
      (record { records = records_is; stages = stages_is; drained = room old - room new; halted = halted; most = most; bound = 2 * (stages_is * stages_is) + 4 * stages_is + 8 })
  drained_core records_is stages_is halted r s h = record {
    drains = on.drains;
    logs = on.logs;
    executes = sequential.records_are ∙ sym at_end.1;
    end = P';
    made = sequence;
    leaves =
        sym (take-append-drop 65536 words')
        ∙ ap (λ (zs : List ℕ). zs ++ drop 65536 words') (sequential.words_are ∙ ap (λ (T : State). T.words) (sym at_end.0))
        ∙ ap (λ (zs : List ℕ). (execution W (room old) S).words ++ zs) beyond;
    answer_is = told_same _ _ _ _ _ _ _ _ _ _ _ _ r s (omega (arith, logs_room on.logs on.within)) (h ∙ sequential.mark_is ∙ ap (λ (T : State). T.halted) (sym at_end.0)) on.most_is (ap bound s);
    few = most_few W (stages_in p) (take 65536 words) on.drains P' (take 65536 words') sequence;
  }

  pub drained_so : (known : ℕ) (read : Result Core JobFault) (fitted : Fitted) (records_is stages_is drained : ℕ) (halted : Bool) → CoreFittedAs known read (Ok fitted) → image_in p ≡ fitted.image → layout_in p ≡ fitted.layout →
      records_is ≡ length (program fitted.image) → stages_is ≡ length (sets_in fitted.layout) → drained ≡ room old - room new → halted ≡ P'.halted →
      CoreDrains table known read words words' old new (Ok (record { records = records_is; stages = stages_is; drained = drained; halted = halted; most = most; bound = 2 * (stages_is * stages_is) + 4 * stages_is + 8 }))
  drained_so known (Err e) fitted records_is stages_is drained halted f i l r s d h = absurd f
  drained_so known (Ok core) fitted records_is stages_is drained halted f i l r s d h =
      let read : pair_told (image_in p) (layout_in p) ≡ core =
      ap (λ (x : Image). pair_told x (layout_in p)) i ∙ ap (λ (x : Layout). pair_told fitted.image x) l ∙ f.0 in
      let here = drained_core records_is stages_is halted (r ∙ ap (λ (x : Image). length (program x)) (sym i)) (s ∙ ap (λ (x : Layout). length (sets_in x)) (sym l)) h in
      let answer : ℕ → CoreDrained = λ n. record { records = records_is; stages = stages_is; drained = n; halted = halted; most = most; bound = 2 * (stages_is * stages_is) + 4 * stages_is + 8 } in
      (subst (λ (n : ℕ). CoreDrainsOn table core words words' old new (answer n)) (sym d) (subst (λ (x : Core). CoreDrainsOn table x words words' old new (answer (room old - room new))) read here), f.1)
