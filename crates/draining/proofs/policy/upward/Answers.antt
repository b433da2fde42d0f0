use Rattle.std.proofs.Common.{rules, ◌≡◌, ℕ, ◌<◌, length, None, sym, ap, ◌∙◌, arith, get_or}
use Rattle.std.proofs.lemmas.List.{get_or_default}
use Rattle.layout.specs.Meaning.{sets_in}
use Rattle.packets.specs.declared.stages.Stage.{Stage}
use Rattle.packets.specs.Stages.{vacant}
use Rattle.draining.proofs.Scans.{highest_some}
use Rattle.draining.proofs.policy.upward.Goals as goal

pub unreachable-requires : goal.unreachable-requires
unreachable-requires c =
    let stages = c.args.pipes.now.stages in
    let found = highest_some stages (length (sets_in c.args.layout.now)) c.in-Some.stage (sym c.highest.ensures.value ∙ c.in-Some.is) in
    let there = found.1 in
    let inside : c.in-Some.stage < length stages = search rules in
    let gone : (get_or stages c.in-Some.stage vacant).packet ≡ None =
    ap (λ (x : Stage). x.packet) (get_or_default stages c.in-Some.stage vacant c.index-pipes-stage.result inside) ∙ c.in_default-packet.is in
    let z : ◌≡◌ {A = ℕ} 0 1 = cc in
    omega arith
