use Rattle.std.proofs.Common.{length, ap, arith, length-take}
use Rattle.memory.proofs.lent.LentWordsReadable.size.Goals as goal

pub overflow_cast-result : goal.overflow_cast-result
overflow_cast-result c = omega (arith, length-take 65536 c.args.self.now.cells.now, ap length c.addressed.ensures)
