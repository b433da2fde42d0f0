use Rattle.job.specs.Reading.{core_of}
use Rattle.retiring.proofs.Edge.{edges}
use Rattle.retiring.proofs.Whole.{refused, drained_so}
use Rattle.retiring.proofs.cores.drain_core.Goals as goal

pub returns-in_err-fitted : goal.returns-in_err-fitted
returns-in_err-fitted g c = record { edges = edges; drained = refused (g.U.Unit.table c.args.unit.now) g.U.Unit.KNOWN c.args.words.now c.args.log.now (core_of c.args.bytes.now) _ _ c.in_err-fitted.ensures c.from_residual.ensures.1 }

pub returns : goal.returns
returns g c = record {
  edges = edges;
  drained = drained_so (g.U.Unit.table c.args.unit.now) c.build-pipeline.result c.args.words.now c.drain_over-most.new.words c.args.log.now c.drain_over-most.new.log _ c.drain_over-most.result
      c.build-pipeline.ensures.parted c.build-pipeline.ensures.pipes c.drain_over-most.ensures.beyond c.drain_over-most.ensures.drained
      g.U.Unit.KNOWN (core_of c.args.bytes.now) c.in_ok-fitted.fitted c.count-records.result c.stages-stages.result _ c.halted.result c.in_ok-fitted.ensures c.build-pipeline.ensures.image c.build-pipeline.ensures.layout
      c.count-records.ensures.value c.stages-stages.ensures.value (let a = c.free-free.ensures in let b = c.free.ensures in cc) c.halted.ensures;
}
