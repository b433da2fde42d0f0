use Rattle.std.proofs.Common.{length, min, arith, ◌≡◌}
use Rattle.std.proofs.lemmas.List.{take_min}
use Rattle.memory.proofs.lent.LentWords.addressed.Goals as goal

pub returns : goal.returns
returns c =
    let xs = c.args.self.now.cells.now in
    let e : c.min-end.result ≡ min 65536 (length c.args.self.now.cells.now) = omega arith in
    rw e (take_min 65536 xs)
