use Rattle.std.proofs.Common.{sym, rules}
use Rattle.std.proofs.Output.{has_written_append, has_written_of_eq}
use Rattle.bounded_log.proofs.Numbering.{numbered_more}
use Rattle.bounded_log.proofs.writing.LogDisplay.fmt.Goals as goal

-- the line of this round is the next that is numbered
pub loop-index-preserved : goal.loop-index-preserved
loop-index-preserved g c plain =
    let printed = rw (g.met.T.PrintedLine.written c.record-item.result) at c.in_ok-writeln.ensures.writes in
    let more = numbered_more g.T.Line.numbers _ _ _ c.loop-index-test.true c.record-item.is in
    has_written_of_eq _ _ _ _ _ (sym more) (has_written_append _ _ _ _ _ _ (c.loop-index.invariant plain) (search rules))
