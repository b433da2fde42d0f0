use Rattle.std.proofs.Common.{refl}
use Rattle.bounded_log.proofs.Logged.{logs_set}
use Rattle.bounded_log.proofs.places.Log.add.Goals as goal

pub returns-then-self-clause-logs : goal.returns-then-self-clause-logs
returns-then-self-clause-logs g c = logs_set c.args.added c.if-self.true refl refl refl
