-- The numbers of a retirement record: place, kind, target and word.
use Rattle.std.specs.Prelude.{ℕ, List, [], ◌∷◌}
use Rattle.instruction.specs.Named.{register_number}
use Rattle.effect.specs.declared.actions.Retirement.{Retirement}
use Rattle.effect.specs.declared.actions.Action.{Action}
use Rattle.effect.specs.declared.actions.Action.TheVariants.{Nothing, SetRegister, StoreWord, Trap, Halt}

abbrev pub kind_of : Action → ℕ
kind_of Nothing = 0
kind_of (SetRegister register word) = 1
kind_of (StoreWord address word) = 2
kind_of (Trap word) = 3
kind_of Halt = 4

abbrev pub target_of : Action → ℕ
target_of Nothing = 0
target_of (SetRegister register word) = register_number register
target_of (StoreWord address word) = address
target_of (Trap word) = 15
target_of Halt = 0

abbrev pub word_of : Action → ℕ
word_of Nothing = 0
word_of (SetRegister register word) = word
word_of (StoreWord address word) = word
word_of (Trap word) = word
word_of Halt = 0

-- the numbers of a record, in the order of its line
abbrev pub numbers_of : Retirement → List ℕ
numbers_of r = r.place ∷ (kind_of r.action ∷ (target_of r.action ∷ (word_of r.action ∷ [])))
