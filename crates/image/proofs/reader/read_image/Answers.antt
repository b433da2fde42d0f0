use Rattle.std.proofs.Common.{sym}
use Rattle.image.proofs.Read.{was_read}
use Rattle.image.proofs.reader.read_image.Goals as goal

pub invariant_of-image : goal.invariant_of-image
invariant_of-image c = record { read = was_read _ _ _ _ (sym c.in_ok-version.ensures) c.in_ok-records.ensures }
