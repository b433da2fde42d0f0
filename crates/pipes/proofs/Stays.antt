-- A refused move changes nothing, and a move touches no stage but its own.
use Rattle.std.proofs.Common.{◌≡◌, ℕ, ◌+◌, ◌-◌, List, get_or, set, Some, None, Err, Option, refl, ap, ◌∙◌, arith, get_or-set_other}
use Rattle.effect.specs.declared.actions.Effect.{Effect}
use Rattle.moves.specs.declared.kinds.MoveKind.{MoveKind}
use Rattle.moves.specs.declared.kinds.MoveKind.TheVariants.{Fetch, Raise, Lower, Execute, Insert, Read, Retire, Drop}
use Rattle.moves.specs.Decoding.{kind_of}
use Rattle.stepper.specs.Machine.{World}
use Rattle.packets.specs.declared.packets.Packet.{Packet}
use Rattle.packets.specs.declared.stages.Stage.{Stage}
use Rattle.packets.specs.Stages.{vacant}
use Rattle.pipes.specs.declared.answers.MoveRefusal.{MoveRefusal}
use Rattle.pipes.specs.declared.state.Pipes.{Pipes}
use Rattle.pipes.specs.Questions.{stage_at, packet_at, top, refusal_of}
use Rattle.pipes.specs.Moving.{Left, moved_by, moved, accepted, accepted_by, fetched_from, vacated, writing_if, leaving_effect, retired_from}
use Rattle.pipes.specs.Laws.{Apart, ApartBy}

refused_by : (o : Option MoveRefusal) (P : Pipes) (words : List ℕ) (left : Left) (f : MoveRefusal) →
    (moved_by o P words left).answer ≡ Err f → ((moved_by o P words left).pipes ≡ P) × ((moved_by o P words left).words ≡ words)
refused_by None P words left f e = absurd (let z : ◌≡◌ {A = ℕ} 0 1 = cc in omega arith)
refused_by (Some r) P words left f e = (refl, refl)

pub refused_stays : (W : World) (sets : List ℕ) (P : Pipes) (words : List ℕ) (kind place : ℕ) (f : MoveRefusal) →
    (moved W sets P words kind place).answer ≡ Err f → ((moved W sets P words kind place).pipes ≡ P) × ((moved W sets P words kind place).words ≡ words)
refused_stays W sets P words kind place f = refused_by (refusal_of sets P kind place) P words (accepted_by W sets P words (kind_of kind) place) f

module _ (stages : List Stage) (k : ℕ) where
  other : (s : ℕ) (x : Stage) → (k ≡ s → ⊥) → get_or (set stages s x) k vacant ≡ get_or stages k vacant
  other s x h = get_or-set_other stages s k x vacant h

writing_stages : (P : Pipes) (words : List ℕ) (place : ℕ) (e : Option Effect) → (writing_if P words place e).pipes.stages ≡ P.stages
writing_stages P words place None = refl
writing_stages P words place (Some e) = refl

retired_stages : (P : Pipes) (words : List ℕ) (p : Option Packet) → (retired_from P words p).pipes.stages ≡ P.stages
retired_stages P words None = refl
retired_stages P words (Some p) = writing_stages P words p.fetched.place (leaving_effect p)

module _ (W : World) (sets : List ℕ) (P : Pipes) (words : List ℕ) (k : ℕ) where
  fetched_apart : (f : Option ℕ) → (k ≡ 0 → ⊥) → stage_at (fetched_from W words P f) k ≡ stage_at P k
  fetched_apart (Some place) h = other P.stages k 0 _ h
  fetched_apart None h = refl

  accepted_apart : (kind : MoveKind) (s : ℕ) → Apart sets kind s k → stage_at (accepted W sets P words kind s).pipes k ≡ stage_at P k
  accepted_apart Fetch s h = fetched_apart P.fetch h
  accepted_apart Raise s h = other (set P.stages s _) k (s + 1) _ h.1 ∙ other P.stages k s _ h.0
  accepted_apart Lower s h = other (set P.stages s _) k (s - 1) _ h.1 ∙ other P.stages k s _ h.0
  accepted_apart Execute s h = other P.stages k s _ h
  accepted_apart Insert s h = other P.stages k s _ h
  accepted_apart Read s h = other P.stages k (top sets) _ h
  accepted_apart Retire s h = ap (λ (xs : List Stage). get_or xs k vacant) (retired_stages (vacated sets P) words (packet_at P (top sets))) ∙ other P.stages k (top sets) _ h
  accepted_apart Drop s h = other P.stages k 0 _ h

  accepted_by_lem : (kind : Option MoveKind) (s : ℕ) → ApartBy sets kind s k → stage_at (accepted_by W sets P words kind s).pipes k ≡ stage_at P k
  accepted_by_lem None s h = refl
  accepted_by_lem (Some kind) s h = accepted_apart kind s h

  moved_apart : (o : Option MoveRefusal) (left : Left) → stage_at left.pipes k ≡ stage_at P k → stage_at (moved_by o P words left).pipes k ≡ stage_at P k
  moved_apart None left h = h
  moved_apart (Some f) left h = refl

  pub others_stay : (kind place : ℕ) → ApartBy sets (kind_of kind) place k → stage_at (moved W sets P words kind place).pipes k ≡ stage_at P k
  others_stay kind place h = moved_apart (refusal_of sets P kind place) (accepted_by W sets P words (kind_of kind) place) (accepted_by_lem (kind_of kind) place h)
