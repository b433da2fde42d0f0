use Rattle.std.proofs.Common.{sym}
use Rattle.moves.proofs.Read.{was_read}
use Rattle.moves.proofs.reader.read_moves.Goals as goal

pub invariant_of-result : goal.invariant_of-result
invariant_of-result c = record { read = was_read _ _ _ _ (sym c.in_ok-count.ensures) c.in_ok-entries.ensures }
