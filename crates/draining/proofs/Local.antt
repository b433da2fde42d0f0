-- What a move does to the one or two stages that it touches: waiting packets still fit, and hope is
-- kept.
use Rattle.std.proofs.Common.{◌≡◌, ℕ, zero, suc, Bool, true, false, cond, not, ◌||◌, ltb, List, [], ◌∷◌, length, get_or, set, is_some, Some, None, Option, refl, ⊎_elim, arith}
use Rattle.std.specs.List.{slice_get}
use Rattle.std.proofs.lemmas.Option.{slice_get-get_or, slice_get_past}
use Rattle.std.proofs.lemmas.Bool.{or_left, cases_lt}
use Rattle.std.proofs.lemmas.Bool.Decides.{nat_tests}
use Rattle.fit.specs.Fitting.{some_below, placed, All}
use Rattle.effect.specs.declared.actions.Fetched.{Fetched}
use Rattle.effect.specs.Effects.{Table, effect_by}
use Rattle.instruction.specs.declared.instructions.Instruction.{Instruction}
use Rattle.instruction.specs.declared.instructions.Instruction.TheVariants.{Halt}
use Rattle.instruction.specs.Operations.{operation_of}
use Rattle.packets.specs.declared.packets.Packet.{Packet}
use Rattle.packets.specs.declared.packets.PacketState.{PacketState}
use Rattle.packets.specs.declared.packets.PacketState.TheVariants.{Waiting}
use Rattle.packets.specs.declared.results.PipeResult.{PipeResult}
use Rattle.packets.specs.declared.stages.Stage.{Stage}
use Rattle.packets.specs.Entering.{at_once, guess_of, no_words, entering}
use Rattle.packets.specs.Packets.{executed_as, is_executed, may_execute}
use Rattle.packets.specs.Stages.{staged, vacant, result_in, free, met, executing, inserting}
use Rattle.layout.specs.Able.{able_from}
use Rattle.pipes.specs.Questions.{is_open, holds_of, some_able}
use Rattle.pipes.specs.Moving.{closes, fetch_on}
use Rattle.draining.specs.Sound.{fits_in, controls, promises, promised, hopeful, hope}

module _ (sets : List ℕ) (s : ℕ) where
  pub met_fits : (o : Option Packet) (r : Option PipeResult) → fits_in sets s o ≡ true → fits_in sets s (met o r).packet ≡ true
  met_fits o r h = grind arith

pub met_hopes : (o : Option Packet) (r : Option PipeResult) → (promised o || controls r) ≡ true → hopeful (met o r) ≡ true
met_hopes o r h = grind arith

pub raise_hopes : (x y : Stage) → not (is_some y.packet) ≡ true → (hopeful x || hopeful y) ≡ true →
    (hopeful (staged None (result_in x)) || hopeful (met x.packet (result_in y))) ≡ true
raise_hopes x y e h = let m = met_hopes x.packet (result_in y) in grind arith

pub lower_hopes : (x y : Stage) → free x.result ≡ true → (hopeful y || hopeful x) ≡ true →
    (hopeful (staged y.packet None) || hopeful (met x.packet (result_in y))) ≡ true
lower_hopes x y e h = crossed (promised y.packet) (controls (result_in y)) (promised x.packet) (controls (result_in x)) _ (empty x.result.held e) (met_hopes x.packet (result_in y)) h
  where
    empty : (o : Option PipeResult) → not (is_some o) ≡ true → controls o ≡ false
    empty o e = grind arith

    crossed : (a b c d g : Bool) → d ≡ false → ((c || b) ≡ true → g ≡ true) → ((a || b) || (c || d)) ≡ true → ((a || false) || g) ≡ true
    crossed a b c d g e m h = grind arith

pub read_hopes : (x : Stage) (r : PipeResult) → free x.result ≡ true → hopeful x ≡ true → hopeful (met x.packet (Some r)) ≡ true
read_hopes x r e h = let m = met_hopes x.packet (Some r) in grind arith

pub insert_hopes : (x : Stage) → free x.result ≡ true → hopeful x ≡ true → hopeful (inserting x) ≡ true
insert_hopes x e h = grind arith

pub insert_fits : (sets : List ℕ) (s : ℕ) (x : Stage) → fits_in sets s x.packet ≡ true → fits_in sets s (inserting x).packet ≡ true
insert_fits sets s x h = grind arith

module _ (table : Table) (words : List ℕ) (handler : ℕ) (x : Stage) where
  pub execute_hopes : holds_of may_execute x.packet ≡ true → hopeful x ≡ true → hopeful (executing table words handler x) ≡ true
  execute_hopes e h = grind arith

  pub execute_fits : (sets : List ℕ) (s : ℕ) → fits_in sets s (executing table words handler x).packet ≡ true
  execute_fits sets s = grind arith

pub drop_hopes : (x : Stage) (f : Option ℕ) (h : Bool) → (is_open f || (hopeful x || h)) ≡ true →
    (is_open (fetch_on (result_in x) f) || (hopeful (staged x.packet None) || h)) ≡ true
drop_hopes x f h e = grind arith

pub drop-list : (xs : List Stage) (f : Option ℕ) → (is_open f || hope xs) ≡ true →
    (is_open (fetch_on (result_in (get_or xs 0 vacant)) f) || hope (set xs 0 (staged (get_or xs 0 vacant).packet None))) ≡ true
drop-list [] f e = e
drop-list (x ∷ xs) f e = drop_hopes x f (hope xs) e

-- what enters
module _ (table : Table) (words : List ℕ) (handler : ℕ) where
  closed_state : (guess place : ℕ) (o : Option Instruction) → closes o ≡ true →
      promises (cond (at_once o) (executed_as guess (effect_by table words handler place no_words o)) Waiting) ≡ true
  closed_state guess place o e = grind arith

  pub closed_hopes : (fetched : Fetched) (r : Option PipeResult) → closes fetched.instruction ≡ true → hopeful (met (Some (entering table words handler fetched)) r) ≡ true
  closed_hopes fetched r e =
      met_hopes (Some (entering table words handler fetched)) r (or_left _ (controls r) (closed_state (guess_of fetched) fetched.place fetched.instruction e))

  passes_state : (sets : List ℕ) (guess place : ℕ) (o : Option Instruction) → (at_once o || some_able sets 0 o) ≡ true →
      (is_executed (cond (at_once o) (executed_as guess (effect_by table words handler place no_words o)) Waiting) || some_able sets 0 o) ≡ true
  passes_state sets guess place o e = passes (at_once o) (some_able sets 0 o) (executed_as guess (effect_by table words handler place no_words o)) refl e
    where
      passes : (a b : Bool) (st : PacketState) → is_executed st ≡ true → (a || b) ≡ true → (is_executed (cond a st Waiting) || b) ≡ true
      passes a b st q e = grind arith

  pub enter_fits : (sets : List ℕ) (fetched : Fetched) (r : Option PipeResult) → (at_once fetched.instruction || some_able sets 0 fetched.instruction) ≡ true →
      fits_in sets 0 (met (Some (entering table words handler fetched)) r).packet ≡ true
  enter_fits sets fetched r e =
      met_fits sets 0 (Some (entering table words handler fetched)) r (passes_state sets (guess_of fetched) fetched.place fetched.instruction e)

from_zero : (sets : List ℕ) (operation n : ℕ) → able_from n sets 0 operation ≡ some_below n sets operation
from_zero sets operation zero = refl
from_zero sets operation (suc n) = rw (from_zero sets operation n) (grind (arith, nat_tests))

placed_at : (sets : List ℕ) (i : Instruction) → placed sets i ≡ true → (at_once (Some i) || some_able sets 0 (Some i)) ≡ true
placed_at sets i h = let e = from_zero sets (operation_of i) (length sets) in needed i (some_below (length sets) sets (operation_of i)) (able_from (length sets) sets 0 (operation_of i)) e h
  where
    needed : (i : Instruction) (a b : Bool) → b ≡ a → (ltb (operation_of i) 2 || a) ≡ true → (at_once (Some i) || b) ≡ true
    needed i a b e h = grind (arith, nat_tests)

-- every instruction of a program that was fitted has its stage, and a place past the end needs none
pub fetched_fits : (sets : List ℕ) (program : List Instruction) (place : ℕ) → All (placed sets) program → (at_once (slice_get program place) || some_able sets 0 (slice_get program place)) ≡ true
fetched_fits sets program place h =
    ⊎_elim
    (λ l. rw (slice_get-get_or program place Halt l) (placed_at sets (get_or program place Halt) (h place l)))
    (λ l. rw (slice_get_past program place l))
    (cases_lt place (length program))
