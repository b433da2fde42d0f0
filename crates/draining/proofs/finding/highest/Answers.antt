use Rattle.std.proofs.Common.{rules, ◌≡◌, ℕ, ◌<◌, true, false, is_some, length, take, MatchOption, get_or, ap, ◌∙◌}
use Rattle.packets.specs.Stages.{vacant}
use Rattle.draining.specs.Policy.{highest}
use Rattle.draining.proofs.Scans.{highest_taken}
use Rattle.draining.proofs.finding.highest.Goals as goal

pub returns-clause-value : goal.returns-clause-value
returns-clause-value c =
    let stages = c.args.pipes.now.stages in
    let xs = take c.stages.result c.args.pipes.now.stages in
    let found : MatchOption c.rposition.result ((k : ℕ) → k < length xs → is_some (get_or xs k vacant).packet ≡ false)
    (λ i. (i < length xs) × ((is_some (get_or xs i vacant).packet ≡ true) × ((k : ℕ) → i < k → k < length xs → is_some (get_or xs k vacant).packet ≡ false))) = search rules in
    highest_taken stages c.stages.result c.rposition.result found ∙ ap (highest stages) c.stages.ensures.value
