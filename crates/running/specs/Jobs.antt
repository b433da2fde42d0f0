-- What running the bytes of a job answers and leaves.
use Rattle.std.specs.Prelude.{◌≡◌, ℕ, List, [], ◌++◌, take, drop, Ok, Err, Result}
use Rattle.effect.specs.declared.actions.Retirement.{Retirement}
use Rattle.effect.specs.Effects.{Table}
use Rattle.stepper.specs.Machine.{World}
use Rattle.job.specs.declared.faults.JobFault.{JobFault}
use Rattle.job.specs.Reading.{Contents}
use Rattle.checking.specs.declared.answers.CheckFault.TheVariants.{Job}
use Rattle.checking.specs.Checked.{figures_of, Misfit, Fitting}
use Rattle.pipes.specs.declared.answers.RunFigures.{RunFigures}
use Rattle.pipes.specs.declared.answers.RunRefusal.{RunRefusal}
use Rattle.pipes.specs.Moving.{fresh}
use Rattle.pipes.specs.Running as pipes
use Rattle.running.specs.declared.answers.JobRun.{JobRun}
use Rattle.running.specs.declared.answers.JobRunFault.{JobRunFault}
use Rattle.running.specs.declared.answers.JobRunFault.TheVariants.{Check, Run}

abbrev pub world_from : Table → Contents → World
world_from table job = record { table = table; program = job.program; handler = job.handler }

-- A job's moves on its fresh pipeline, over the first 65,536 of the words, with so many free log
-- places.
abbrev pub run_in : Table → List ℕ → ℕ → Contents → pipes.Run
run_in table words room job = pipes.run_of (world_from table job) job.sets fresh (take 65536 words) job.moves room

module _ (known : ℕ) (job : Contents) (R : pipes.Run) where
  -- a job that fits is run, or refused for want of log places; one that does not fit is refused so
  abbrev pub RunsIf : Result RunFigures RunRefusal → Result JobRun JobRunFault → Type 0
  RunsIf (Ok figures) (Ok r) = (r ≡ record { job = figures_of job; run = figures; halted = R.pipes.halted }) × Fitting known job
  RunsIf (Ok figures) (Err (Check refused)) = Misfit known job refused
  RunsIf (Ok figures) (Err (Run refused)) = ⊥
  RunsIf (Err refusal) (Ok r) = ⊥
  RunsIf (Err refusal) (Err (Check refused)) = Misfit known job refused
  RunsIf (Err refusal) (Err (Run refused)) = (refused ≡ refusal) × Fitting known job

-- what the lent words are then, and the records that the log has more: a refused job changes
-- neither
pub record Kept : Type 0 where
  pub words_are : List ℕ
  pub records : List Retirement

module _ (words : List ℕ) where
  abbrev pub as_before : Kept
  as_before = record { words_are = words; records = [] }

  abbrev pub after_run : pipes.Run → Kept
  after_run R = record { words_are = R.words ++ drop 65536 words; records = R.live }

  abbrev kept_by : pipes.Run → Result JobRun JobRunFault → Kept
  kept_by R (Ok r) = after_run R
  kept_by R (Err fault) = as_before

  abbrev pub kept : Table → ℕ → Result Contents JobFault → Result JobRun JobRunFault → Kept
  kept table room (Ok job) r = kept_by (run_in table words room job) r
  kept table room (Err fault) r = as_before

-- the answer: the questions of a job first, then those of fit, then that of the run
abbrev pub JobRuns : Table → ℕ → List ℕ → ℕ → Result Contents JobFault → Result JobRun JobRunFault → Type 0
JobRuns table known words room (Ok job) r = RunsIf known job (run_in table words room job) (run_in table words room job).answer r
JobRuns table known words room (Err fault) r = r ≡ Err (Check (Job fault))
