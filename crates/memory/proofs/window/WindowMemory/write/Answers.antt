use Rattle.std.proofs.Common.{ℕ, List, ap, ◌∙◌, arith}
use Rattle.memory.specs.Windows.{window_of}
use Rattle.memory.proofs.Within.{window_written}
use Rattle.memory.proofs.window.WindowMemory.write.Goals as goal

pub returns-then-address-size-clause-after : goal.returns-then-address-size-clause-after
returns-then-address-size-clause-after g c =
    let s = c.args.self.now in
    ap (λ (xs : List ℕ). window_of xs s.base s.size) c.write.ensures.after
    ∙ window_written (g.M.Readable.words s.below) s.base s.size c.args.address (omega arith) c.args.word
