use Rattle.job.specs.Reading.{job_of}
use Rattle.running.proofs.Whole.{unchecked, ran_job, went, short}
use Rattle.running.proofs.jobs.run_job.Goals as goal

pub returns-in_err-fitted_job : goal.returns-in_err-fitted_job
returns-in_err-fitted_job g c =
    let table = g.U.Unit.table c.args.unit.now in
    let all = unchecked table g.U.Unit.KNOWN c.args.words.now c.args.log.now (job_of c.args.bytes.now) _ c.in_err-fitted_job.ensures c.from_residual.ensures.1 in
    record { value = all.value; words = all.lent; logs = all.logs }

pub returns-in_err-run : goal.returns-in_err-run
returns-in_err-run g c =
    let table = g.U.Unit.table c.args.unit.now in
    let words = c.args.words.now in
    let job = c.in_ok-fitted_job.fitted_job in
    let built = c.build-pipeline.ensures in
    let over = ran_job table words c.build-pipeline.result job built.image built.layout built.pipes (rw c.in_err-run.was at c.run_over.ensures.ran) in
    let all = short table g.U.Unit.KNOWN words c.run_over.new.words c.args.log.now c.run_over.new.log job _ c.run_over.ensures.beyond (job_of c.args.bytes.now) c.in_err-run.field-0.0 c.in_ok-fitted_job.ensures over c.from_residual-in_err-run.ensures.1 in
    record { value = all.value; words = all.lent; logs = all.logs }

pub returns : goal.returns
returns g c =
    let table = g.U.Unit.table c.args.unit.now in
    let words = c.args.words.now in
    let job = c.in_ok-fitted_job.fitted_job in
    let built = c.build-pipeline.ensures in
    let over = ran_job table words c.build-pipeline.result job built.image built.layout built.pipes (rw c.in_ok-run.was at c.run_over.ensures.ran) in
    let all = went table g.U.Unit.KNOWN words c.run_over.new.words c.args.log.now c.run_over.new.log job _ c.run_over.ensures.beyond _ _ _ _ c.in_ok-fitted_job.ensures over c.figures-job.ensures c.halted.ensures in
    record { value = all.value; words = all.lent; logs = all.logs }
