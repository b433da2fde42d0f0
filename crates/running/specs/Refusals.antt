-- Each refusal of a job that is to be run.
use Rattle.fields.specs.declared.refusal.Refusal.{Refusal}
use Rattle.checking.specs.Checked.{check_refusal}
use Rattle.pipes.specs.Running.{run_number}
use Rattle.running.specs.declared.answers.JobRunFault.{JobRunFault}
use Rattle.running.specs.declared.answers.JobRunFault.TheVariants.{Check, Run}

abbrev pub job_run_refusal : JobRunFault → Refusal
job_run_refusal (Check fault) = check_refusal fault
job_run_refusal (Run fault) = record { number = run_number fault; place = 0 }
