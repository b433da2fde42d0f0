-- What was read, fitted and run, put together.
use Rattle.std.proofs.Common.{◌≡◌, ℕ, Bool, List, ◌++◌, take, drop, Ok, Err, IsErrAnd, Result, sym, refl, ap, ◌∙◌, subst, take-append-drop}
use Rattle.bounded_log.specs.declared.places.Log.{Log}
use Rattle.image.specs.declared.images.Image.{Image}
use Rattle.layout.specs.declared.layouts.Layout.{Layout}
use Rattle.layout.specs.Meaning.{sets_in}
use Rattle.moves.specs.Meaning.{moves_in}
use Rattle.effect.specs.declared.actions.Retirement.{Retirement}
use Rattle.effect.specs.Effects.{Table}
use Rattle.bounded_log.specs.Room.{room, Logs}
use Rattle.stepper.specs.View.{world_of}
use Rattle.job.specs.declared.faults.JobFault.{JobFault}
use Rattle.job.specs.Reading.{Contents}
use Rattle.checking.specs.declared.answers.CheckFault.{CheckFault}
use Rattle.checking.specs.declared.answers.JobFigures.{JobFigures}
use Rattle.checking.specs.declared.fitted.FittedJob.{FittedJob}
use Rattle.checking.specs.Checked.{FittedAs, Misfit, contents_of, figures_of}
use Rattle.pipes.specs.declared.answers.RunFigures.{RunFigures}
use Rattle.pipes.specs.declared.answers.RunRefusal.{RunRefusal}
use Rattle.pipes.specs.declared.state.Pipes.{Pipes}
use Rattle.pipes.specs.Moving.{fresh}
use Rattle.pipeline.specs.declared.pipelines.Pipeline.{Pipeline}
use Rattle.pipeline.specs.Calls.{list_run}
use Rattle.pipeline.specs.Views.{image_in, layout_in, pipes_in, stages_in}
use Rattle.pipes.specs.Running.{Run, run_of, not_begun, RunsTo}
use Rattle.bounded_log.proofs.Logged.{logs_none}
use Rattle.pipes.proofs.Runs.{run_refused}
use Rattle.checking.proofs.Errors.{err_is}
use Rattle.running.specs.declared.answers.JobRun.{JobRun}
use Rattle.running.specs.declared.answers.JobRunFault.{JobRunFault}
use Rattle.running.specs.declared.answers.JobRunFault.TheVariants as fault
use Rattle.running.specs.Jobs.{run_in, world_from, RunsIf, JobRuns, kept}

-- the clauses of `run_job`
pub record Promised (table : Table) (known : ℕ) (words words' : List ℕ) (log log' : Log Retirement) (read : Result Contents JobFault) (r : Result JobRun JobRunFault) : Type 0 where
  pub value : JobRuns table known words (room log) read r
  pub lent : words' ≡ (kept words table (room log) read r).words_are
  pub logs : Logs log log' (kept words table (room log) read r).records

module _ (table : Table) (known : ℕ) (words : List ℕ) (log : Log Retirement) where
  misfits : (job : Contents) (R : Run) (answer : Result RunFigures RunRefusal) (f : CheckFault) → Misfit known job f → RunsIf known job R answer (Err (fault.Check f))
  misfits job R (Ok figures) f h = h
  misfits job R (Err refusal) f h = h

  refused_first : (read : Result Contents JobFault) (f : CheckFault) → FittedAs known read (Err f) → Promised table known words words log log read (Err (fault.Check f))
  refused_first (Err e) f h = record { value = ap (λ (x : CheckFault). Err (fault.Check x)) h; lent = refl; logs = logs_none refl }
  refused_first (Ok job) f h = record {
    value = misfits job (run_in table words (room log) job) (run_in table words (room log) job).answer f h;
    lent = refl;
    logs = logs_none refl;
  }

  -- a job that is refused before it is run
  pub unchecked : (read : Result Contents JobFault) (f : CheckFault) {r : Result JobRun JobRunFault} → FittedAs known read (Err f) → IsErrAnd r (λ e. e ≡ fault.Check f) → Promised table known words words log log read r
  unchecked read f {r} h e = subst (λ (x : Result JobRun JobRunFault). Promised table known words words log log read x) (sym (err_is r (fault.Check f) e)) (refused_first read f h)

-- the run of the pipeline that was built is the run of the job
module _ (table : Table) (words : List ℕ) (p : Pipeline) (job : FittedJob) (i : image_in p ≡ job.fitted.image) (l : layout_in p ≡ job.fitted.layout) (b : pipes_in p ≡ fresh) where
  run_is : (free : ℕ) → list_run table p (take 65536 words) (moves_in job.moves) free ≡ run_in table words free (contents_of job)
  run_is free =
      ap (λ (x : Image). run_of (world_of table x) (stages_in p) p.pipes (take 65536 words) (moves_in job.moves) free) i
      ∙ ap (λ (x : Layout). run_of (world_of table job.fitted.image) (sets_in x) p.pipes (take 65536 words) (moves_in job.moves) free) l
      ∙ ap (λ (x : Pipes). run_of (world_of table job.fitted.image) (sets_in job.fitted.layout) x (take 65536 words) (moves_in job.moves) free) b

  pub ran_job : {P' : Pipes} {ws : List ℕ} {log log' : Log Retirement} {a : Result RunFigures RunRefusal} → RunsTo (list_run table p (take 65536 words) (moves_in job.moves) (room log)) P' ws log log' a →
      RunsTo (run_in table words (room log) (contents_of job)) P' ws log log' a
  ran_job {P'} {ws} {log} {log'} {a} o = subst (λ (R : Run). RunsTo R P' ws log log' a) (run_is (room log)) o

module _ (table : Table) (known : ℕ) (words words' : List ℕ) (log log' : Log Retirement) (job : FittedJob) (P' : Pipes)
    (beyond : drop 65536 words' ≡ drop 65536 words) where
  abbrev R : Contents → Run
  R job = run_in table words (room log) job

  together : (ws : List ℕ) → take 65536 words' ≡ ws → words' ≡ ws ++ drop 65536 words
  together ws e = sym (take-append-drop 65536 words') ∙ ap (λ (x : List ℕ). x ++ drop 65536 words') e ∙ ap (λ (x : List ℕ). ws ++ x) beyond

  -- a job that is run
  pub went : (read : Result Contents JobFault) (run : RunFigures) (sized : JobFigures) (halted : Bool) → FittedAs known read (Ok job) →
      RunsTo (R (contents_of job)) P' (take 65536 words') log log' (Ok run) → sized ≡ figures_of (contents_of job) → halted ≡ P'.halted →
      Promised table known words words' log log' read (Ok (record { job = sized; run = run; halted = halted }))
  went (Err e) run sized halted h o s t = absurd h
  went (Ok told) run sized halted h o s t =
      let same = ap R h.0 in
      let whole : JobFigures → Bool → JobRun = λ a b. record { job = a; run = run; halted = b } in
      let stopped = t ∙ ap (λ (x : Pipes). x.halted) o.pipes ∙ ap (λ (x : Run). x.pipes.halted) same in
      let figures = s ∙ ap figures_of h.0 in
      let answer = o.value ∙ ap (λ (x : Run). x.answer) same in
      record {
        value =
            subst (λ (a : Result RunFigures RunRefusal). RunsIf known told (R told) a (Ok (whole sized halted))) answer
            (ap (λ (a : JobFigures). whole a halted) figures ∙ ap (whole (figures_of told)) stopped, h.1);
        lent = together (R told).words (o.words ∙ ap (λ (x : Run). x.words) same);
        logs = subst (λ (x : Run). Logs log log' x.live) same o.logs;
      }

  stopped : (read : Result Contents JobFault) (f : RunRefusal) → FittedAs known read (Ok job) →
      RunsTo (R (contents_of job)) P' (take 65536 words') log log' (Err f) → Promised table known words words' log log' read (Err (fault.Run f))
  stopped (Err e) f h o = absurd h
  stopped (Ok told) f h o =
      let same = ap R h.0 in
      let answer = o.value ∙ ap (λ (x : Run). x.answer) same in
      let none : R told ≡ not_begun fresh (take 65536 words) = run_refused (world_from table told) told.sets fresh (take 65536 words) told.moves (room log) f answer in
      record {
        value = subst (λ (a : Result RunFigures RunRefusal). RunsIf known told (R told) a (Err (fault.Run f))) answer (refl, h.1);
        lent = together (take 65536 words) (o.words ∙ ap (λ (x : Run). x.words) (same ∙ none)) ∙ take-append-drop 65536 words;
        logs = subst (λ (x : Run). Logs log log' x.live) (same ∙ none) o.logs;
      }

  -- a job that fits, with too short a log
  pub short : (read : Result Contents JobFault) (f : RunRefusal) {r : Result JobRun JobRunFault} → FittedAs known read (Ok job) →
      RunsTo (R (contents_of job)) P' (take 65536 words') log log' (Err f) → IsErrAnd r (λ e. e ≡ fault.Run f) → Promised table known words words' log log' read r
  short read f {r} h o e = subst (λ (x : Result JobRun JobRunFault). Promised table known words words' log log' read x) (sym (err_is r (fault.Run f) e)) (stopped read f h o)
