-- The state after an effect, by the cases of its action and part by part, is the same.
use Rattle.std.proofs.Common.{◌≡◌, refl}
use Rattle.effect.specs.declared.actions.Action.{Action}
use Rattle.effect.specs.declared.actions.Action.TheVariants.{Nothing, SetRegister, StoreWord, Trap, Halt}
use Rattle.effect.specs.declared.actions.Effect.{Effect}
use Rattle.stepper.specs.Machine.{State, changed, applied}

pub applied_parts : (effect : Effect) (S : State) → changed effect.action effect.next S ≡ applied effect S
applied_parts effect S = by_action effect.action
  where
    by_action : (action : Action) → changed action effect.next S ≡ applied (record { action = action; next = effect.next }) S
    by_action Nothing = refl
    by_action (SetRegister register word) = refl
    by_action (StoreWord address word) = refl
    by_action (Trap word) = refl
    by_action Halt = refl
