use Rattle.std.proofs.Common.{ℕ, ◌<◌, ◌≤◌, List, [], ◌∷◌, length, take, sym, refl, ap, arith}
use Rattle.memory.specs.Kept.{Kept}
use Rattle.memory.proofs.Facts.{inside, front_written, back_same, write_in, write_out, written_out}
use Rattle.memory.proofs.lent.LentWordsMemory.write.Goals as goal

pub bounds-self-address : goal.bounds-self-address
bounds-self-address c = inside 65536 c.args.self.now.cells.now c.args.address (omega arith)

pub returns-then-address-size : goal.returns-then-address-size
returns-then-address-size c =
    let xs = c.args.self.now.cells.now in
    let a = c.args.address in
    let h : c.args.address < length (take 65536 c.args.self.now.cells.now) = omega arith in
    let kept : List ℕ → Kept = λ ys. record { roots = c.args.self.now.cells.ghost_name ∷ []; beyond = ys ∷ [] } in
    record {
      value = sym (write_in (take 65536 xs) a h);
      after = front_written 65536 xs a h c.args.word;
      kept = ap kept (back_same 65536 xs a h c.args.word);
    }

pub returns-else-address-size : goal.returns-else-address-size
returns-else-address-size c =
    let xs = c.args.self.now.cells.now in
    let h : length (take 65536 c.args.self.now.cells.now) ≤ c.args.address = omega arith in
    record {
      value = sym (write_out (take 65536 xs) c.args.address h);
      after = sym (written_out (take 65536 xs) c.args.address c.args.word h);
      kept = refl;
    }
