-- Two stages driven by the policy, computed: an assignment, a halt, a place past the end, a wrong
-- guess.
use Rattle.std.proofs.Common.{◌≡◌, ℕ, zero, suc, false, List, [], ◌∷◌, refl}
use Rattle.unit.specs.Faults.{faulty}
use Rattle.instruction.specs.declared.instructions.Instruction.{Instruction}
use Rattle.instruction.specs.declared.instructions.Instruction.TheVariants as instruction
use Rattle.instruction.specs.Named.{register}
use Rattle.effect.specs.declared.actions.Action.{Action}
use Rattle.effect.specs.declared.actions.Action.TheVariants.{Nothing, SetRegister, Trap, Halt}
use Rattle.effect.specs.declared.actions.Retirement.{Retirement}
use Rattle.stepper.specs.Machine.{World}
use Rattle.pipes.specs.Moving.{fresh}
use Rattle.pipes.specs.Running.{Tally, begun, tallied}
use Rattle.draining.specs.Policy.{chosen}

-- two stages, each able for assignments and branches
abbrev sets : List ℕ
sets = 12 ∷ 12 ∷ []

abbrev world : List Instruction → World
world program = record { table = λ f a b. faulty 0; program = program; handler = 9 }

abbrev retired : ℕ → Action → Retirement
retired place action = record { place = place; action = action }

-- so many chosen moves
abbrev driven : World → ℕ → Tally → Tally
driven W zero t = t
driven W (suc n) t = driven W n (tallied W sets t (chosen sets t.pipes))

abbrev live_after : ℕ → List Instruction → List Retirement
live_after n program = (driven (world program) n (begun fresh [])).live

six : live_after 6 (instruction.Set (register 1) 5 ∷ []) ≡ []
six = refl

seven : live_after 7 (instruction.Set (register 1) 5 ∷ []) ≡ retired 0 (SetRegister (register 1) 5) ∷ []
seven = refl

halts : live_after 3 (instruction.Halt ∷ []) ≡ retired 0 Halt ∷ []
halts = refl

-- past the end: a trap, and fetch goes on at the handler
traps : live_after 5 [] ≡ retired 0 (Trap 196608) ∷ []
traps = refl

-- the branch is taken though its hint says no: what was fetched behind it is killed
turns : live_after 30 (instruction.BranchZero false (register 1) 2 ∷ instruction.Set (register 2) 3 ∷ instruction.Halt ∷ []) ≡ retired 0 Nothing ∷ retired 2 Halt ∷ []
turns = refl
