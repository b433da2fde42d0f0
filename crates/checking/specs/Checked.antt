-- What checking a job answers.
use Rattle.std.specs.Prelude.{◌≡◌, ℕ, List, length, Ok, Err, Result}
use Rattle.fields.specs.declared.refusal.Refusal.{Refusal}
use Rattle.job.specs.declared.faults.JobFault.{JobFault}
use Rattle.job.specs.Faults.{job_refusal}
use Rattle.job.specs.Meaning.{pair_told, told}
use Rattle.job.specs.Reading.{Contents, Core}
use Rattle.instruction.specs.declared.instructions.Instruction.{Instruction}
use Rattle.moves.specs.declared.kinds.Move.{Move}
use Rattle.fit.specs.declared.pairs.Fitted.{Fitted}
use Rattle.fit.specs.Fitting.{All, placed, heard, Unfit, fit_refusal}
use Rattle.checking.specs.declared.answers.JobFigures.{JobFigures}
use Rattle.checking.specs.declared.answers.CheckFault.{CheckFault}
use Rattle.checking.specs.declared.answers.CheckFault.TheVariants.{Job, Fit}
use Rattle.checking.specs.declared.fitted.FittedJob.{FittedJob}

abbrev pub check_refusal : CheckFault → Refusal
check_refusal (Job fault) = job_refusal fault
check_refusal (Fit fault) = fit_refusal fault

-- the figures of a job's three parts
abbrev pub sizes : List Instruction → List ℕ → List Move → JobFigures
sizes program sets moves = record { records = length program; stages = length sets; moves = length moves }

abbrev pub figures_of : Contents → JobFigures
figures_of job = sizes job.program job.sets job.moves

-- every instruction has a stage, and the unit knows every operation
abbrev pub Fits : ℕ → List ℕ → List Instruction → Type 0
Fits known sets program = All (placed sets) program × All (heard known) program

-- or this is why not
abbrev pub Misfits : ℕ → List ℕ → List Instruction → CheckFault → Type 0
Misfits known sets program (Job fault) = ⊥
Misfits known sets program (Fit fault) = Unfit sets known program fault

abbrev pub Misfit : ℕ → Contents → CheckFault → Type 0
Misfit known job fault = Misfits known job.sets job.program fault

-- a job that is read is accepted, with its figures, exactly where it fits; one that is not is
-- refused so
abbrev pub Checked : ℕ → Result Contents JobFault → Result JobFigures CheckFault → Type 0
Checked known (Err fault) (Ok figures) = ⊥
Checked known (Err fault) (Err refused) = refused ≡ Job fault
Checked known (Ok job) (Ok figures) = (figures ≡ figures_of job) × All (placed job.sets) job.program × All (heard known) job.program
Checked known (Ok job) (Err refused) = Misfit known job refused

abbrev pub Fitting : ℕ → Contents → Type 0
Fitting known job = Fits known job.sets job.program

abbrev pub contents_of : FittedJob → Contents
contents_of job = told (record { image = job.fitted.image; layout = job.fitted.layout; moves = job.moves })

-- a job that is read is accepted exactly where it fits; one that is not is refused so
abbrev pub FittedAs : ℕ → Result Contents JobFault → Result FittedJob CheckFault → Type 0
FittedAs known (Err fault) (Ok fitted) = ⊥
FittedAs known (Err fault) (Err refused) = refused ≡ Job fault
FittedAs known (Ok job) (Ok fitted) = (contents_of fitted ≡ job) × Fitting known job
FittedAs known (Ok job) (Err refused) = Misfit known job refused

-- the same of a core
abbrev pub CoreFittedAs : ℕ → Result Core JobFault → Result Fitted CheckFault → Type 0
CoreFittedAs known (Err fault) (Ok fitted) = ⊥
CoreFittedAs known (Err fault) (Err refused) = refused ≡ Job fault
CoreFittedAs known (Ok core) (Ok fitted) = (pair_told fitted.image fitted.layout ≡ core) × Fits known core.sets core.program
CoreFittedAs known (Ok core) (Err refused) = Misfits known core.sets core.program refused
