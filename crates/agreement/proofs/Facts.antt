-- What is to be known of the instructions: nothing else here looks into them.
use Rattle.std.proofs.Common.{◌≡◌, ℕ, ◌%◌, ◌^◌, Bool, true, false, List, length, get_or, Some, None, Option, refl, mod-lt, arith, lit<, length-set, get_or-set_other, get_or-set_same}
use Rattle.std.proofs.lemmas.Bool.Decides.{nat_tests}
use Rattle.instruction.specs.declared.numbers.Register.{Register}
use Rattle.instruction.specs.declared.numbers.UnitOp.{UnitOp}
use Rattle.instruction.specs.declared.instructions.Instruction.{Instruction}
use Rattle.instruction.specs.declared.instructions.Instruction.TheVariants as instruction
use Rattle.effect.specs.declared.actions.Action.{Action}
use Rattle.effect.specs.declared.actions.Effect.{Effect}
use Rattle.effect.specs.declared.actions.Fetched.{Fetched}
use Rattle.effect.specs.declared.actions.Sources.{Sources}
use Rattle.effect.specs.Changes.{registers_after}
use Rattle.effect.specs.Effects.{Table, asked, effect_by}
use Rattle.layout.specs.Able.{able}
use Rattle.stepper.specs.Machine.{State, applied}
use Rattle.packets.specs.Packets.{owed_by}
use Rattle.packets.specs.Entering.{guess_of, at_once}
use Rattle.packets.specs.Meeting.{destination_of, names, behind}
use Rattle.pipes.specs.Moving.{closes}
use Rattle.pipes.specs.Questions.{able_for}
use Rattle.agreement.specs.Statement.{Alike}
use Rattle.agreement.specs.Walk.{goes_on, ResultAt}

-- does an instruction read or write memory
abbrev pub touches : Option Instruction → Bool
touches None = false
touches (Some instruction.Halt) = false
touches (Some (instruction.Jump target)) = false
touches (Some (instruction.Set destination word)) = false
touches (Some (instruction.BranchZero hint tested target)) = false
touches (Some (instruction.JumpRegister target guess)) = false
touches (Some (instruction.Load destination base offset)) = true
touches (Some (instruction.Store base stored offset)) = true
touches (Some (instruction.Compute operation destination first second)) = false

-- what a stage below the top executes does not touch memory
pub untouched : (sets : List ℕ) (s : ℕ) (found : Option Instruction) → able_for sets s found ≡ true → able sets s 5 ≡ false → able sets s 6 ≡ false → touches found ≡ false
untouched sets s found h a b = by_touch (touches found) refl
  where
    by_touch : (t : Bool) → touches found ≡ t → t ≡ false
    by_touch false e = refl
    by_touch true e = grind arith

module _ (table : Table) (handler place : ℕ) (found : Option Instruction) where
  pub memory_aside : (a b : List ℕ) (x : Sources) → touches found ≡ false → effect_by table a handler place x found ≡ effect_by table b handler place x found
  memory_aside a b x h = grind arith

  -- what needs no stage needs no word either
  pub at_once_lem : (a b : List ℕ) (x y : Sources) → at_once found ≡ true → effect_by table a handler place x found ≡ effect_by table b handler place y found
  at_once_lem a b x y h = grind arith

  abbrev effect : List ℕ → Sources → Effect
  effect a x = effect_by table a handler place x found

  abbrev fetched : Fetched
  fetched = record { place = place; instruction = found }

  -- where the path goes on, it goes on at the guess, and fetch is open there
  pub guessed : (a : List ℕ) (x : Sources) →
      goes_on (effect a x).action (owed_by (guess_of fetched) (effect a x).next (effect a x).action) ≡ true →
      (closes found ≡ false) × (guess_of fetched ≡ (effect a x).next)
  guessed a x h = grind (arith, nat_tests)

  -- a register that is not the destination stays as it was
  pub spared : (a : List ℕ) (x : Sources) (guess : ℕ) (register : Register) (word : ℕ) →
      goes_on (effect a x).action (owed_by guess (effect a x).next (effect a x).action) ≡ true → names (destination_of found) register ≡ false →
      behind (effect a x).action register word ≡ word
  spared a x guess register word h n = grind arith

-- the word of a register behind an action
pub behind_is : (action : Action) (register : Register) (registers : List ℕ) → length registers ≡ 16 →
    get_or (registers_after action registers) register.number 0 ≡ behind action register (get_or registers register.number 0)
behind_is action register registers h = grind (arith, nat_tests, get_or-set_same, get_or-set_other)

pub registers_wide : (action : Action) (registers : List ℕ) → length registers ≡ 16 → length (registers_after action registers) ≡ 16
registers_wide action registers h = grind (arith, length-set)

-- what an effect owes is right behind it
pub owed_right : (effect : Effect) (S : State) (guess : ℕ) → length S.registers ≡ 16 →
    ResultAt (applied effect S) (owed_by guess effect.next effect.action)
owed_right effect S guess h = grind (arith, nat_tests, get_or-set_same)

-- tables that are alike give the same effects
module _ (table other : Table) (alike : Alike table other) where
  asked_alike : (operation : UnitOp) (x : Sources) → asked table operation x ≡ asked other operation x
  asked_alike operation x = alike operation.number (x.first % 2 ^ 32) (x.second % 2 ^ 32) operation.below (mod-lt x.first (lit< tt)) (mod-lt x.second (lit< tt))

  pub effect_alike : (words : List ℕ) (handler place : ℕ) (x : Sources) (found : Option Instruction) →
      effect_by table words handler place x found ≡ effect_by other words handler place x found
  effect_alike words handler place x found = grind (arith, asked_alike)
