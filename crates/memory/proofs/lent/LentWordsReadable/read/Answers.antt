use Rattle.std.proofs.Common.{ℕ, List, ap, ◌∙◌, rules}
use Rattle.memory.specs.Words.{read_of}
use Rattle.memory.proofs.lent.LentWordsReadable.read.Goals as goal

pub returns : goal.returns
returns c =
    let told = c.word_at.ensures ∙ ap (λ (ws : List ℕ). read_of ws c.args.address) c.addressed.ensures in
    search (rules, told)
