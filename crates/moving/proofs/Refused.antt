-- A move with a question that is answered with no: it answers that refusal, and leaves all as it
-- stood.
use Rattle.std.proofs.Common.{◌≡◌, ℕ, false, List, Some, None, Ok, Err, Option, Result, sym, refl, ap, ◌∙◌, arith}
use Rattle.std.specs.Prelude.{IsErrAnd}
use Rattle.fields.specs.Scanning.{verdict}
use Rattle.effect.specs.declared.actions.Retirement.{Retirement}
use Rattle.moves.specs.declared.kinds.Move.{Move}
use Rattle.moves.specs.declared.kinds.MoveKind.{MoveKind}
use Rattle.moves.specs.Decoding.{number_of, kind_of}
use Rattle.stepper.specs.Machine.{World}
use Rattle.pipes.specs.declared.answers.MoveRefusal.{MoveRefusal}
use Rattle.pipes.specs.declared.state.Pipes.{Pipes}
use Rattle.pipes.specs.Questions.{asked}
use Rattle.pipes.specs.Moving.{Moved, moved}

is_refusal : (o : Option MoveRefusal) (f : MoveRefusal) → Err f ≡ verdict o → o ≡ Some f
is_refusal None f e = absurd (let z : ◌≡◌ {A = ℕ} 0 1 = cc in omega arith)
is_refusal (Some x) f e = cc

kind_number : (k : MoveKind) → kind_of (number_of k) ≡ Some k
kind_number k = grind arith

refused : (W : World) (sets : List ℕ) (P : Pipes) (words : List ℕ) (m : Move) (f : MoveRefusal) → P.halted ≡ false → Err f ≡ verdict (asked sets P m.kind m.place) →
    moved W sets P words (number_of m.kind) m.place ≡ record { answer = Err f; pipes = P; words = words }
refused W sets P words m f r e = rw (r, kind_number m.kind, is_refusal (asked sets P m.kind m.place) f e) refl

pub turned_away : (W : World) (sets : List ℕ) (P : Pipes) (words : List ℕ) (m : Move) (answer : Result (Option Retirement) MoveRefusal) (f : MoveRefusal) → P.halted ≡ false → Err f ≡ verdict (asked sets P m.kind m.place) → IsErrAnd answer (λ e. e ≡ f) →
    ◌≡◌ {A = Moved} (record { answer = answer; pipes = P; words = words }) (moved W sets P words (number_of m.kind) m.place)
turned_away W sets P words m (Ok a) f r e h = elim h [ ]
turned_away W sets P words m (Err x) f r e h = ap (λ (y : MoveRefusal). record { answer = Err y; pipes = P; words = words }) h ∙ sym (refused W sets P words m f r e)
