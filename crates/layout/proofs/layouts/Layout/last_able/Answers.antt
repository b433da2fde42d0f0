use Rattle.std.proofs.Common.{rules}
use Rattle.layout.proofs.Lasts.{last_found}
use Rattle.layout.proofs.layouts.Layout.last_able.Goals as goal

pub returns : goal.returns
returns c = last_found _ _ _ _ _ _ _ c.find.ensures.ran c.rev.ensures.source c.stages.ensures.value (λ x q k. search rules) (λ x q k. search rules)
