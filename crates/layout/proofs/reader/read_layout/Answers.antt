use Rattle.std.proofs.Common.{sym}
use Rattle.layout.proofs.Read.{was_read}
use Rattle.layout.proofs.reader.read_layout.Goals as goal

pub invariant_of-result : goal.invariant_of-result
invariant_of-result c = record { read = was_read _ _ _ _ (sym c.in_ok-stages.ensures) (rw c.from.ensures at c.in_ok-sets.ensures) }
