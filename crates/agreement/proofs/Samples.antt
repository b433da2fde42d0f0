-- Runs on numbers, by computation: instructions do retire, wrong guesses and traps are mended, a
-- halt ends it.
use Rattle.std.proofs.Common.{◌≡◌, ℕ, zero, suc, ◌+◌, ◌%◌, ◌^◌, ◌<◌, true, false, List, [], ◌∷◌, ◌++◌, length, get_or, replicate, sym, refl, ◌∙◌, arith, lit≤, Ok}
use Rattle.instruction.specs.Named.{register, unit_op}
use Rattle.instruction.specs.declared.instructions.Instruction.{Instruction}
use Rattle.instruction.specs.declared.instructions.Instruction.TheVariants.{Halt, Jump, Set, BranchZero, Load, Store, Compute}
use Rattle.instruction.specs.declared.instructions.Operand.TheVariants as operand
use Rattle.layout.specs.Able.{able}
use Rattle.moves.specs.declared.kinds.Move.{Move}
use Rattle.moves.specs.declared.kinds.MoveKind.{MoveKind}
use Rattle.moves.specs.declared.kinds.MoveKind.TheVariants.{Fetch, Raise, Lower, Execute, Insert, Read, Retire, Drop}
use Rattle.stepper.specs.Machine.{World, start, records}
use Rattle.pipes.specs.Moving.{fresh}
use Rattle.pipes.specs.Running.{Tally, Run, ran, run_of}
use Rattle.agreement.specs.Layouts.{Laid}
use Rattle.agreement.specs.Successions.{built, run}
use Rattle.agreement.specs.Statement.{Equal}
use Rattle.agreement.proofs.Theorem.{agreement}

abbrev adding : List Instruction → ℕ → World
adding program handler = record { table = λ f a b. Ok ((a + b) % 2 ^ 32); program = program; handler = handler }

-- two stages, the lower able for all but loads and stores
abbrev two : List ℕ
two = 4294901788 ∷ 4294901884 ∷ []

abbrev sevens : List ℕ
sevens = replicate 8 7

abbrev one : MoveKind → ℕ → List Move
one kind place = record { kind = kind; place = place } ∷ []

abbrev enter : List Move
enter = one Fetch 0

abbrev climb : List Move
climb = one Raise 0

abbrev sink : List Move
sink = one Lower 1

abbrev away : List Move
away = one Drop 0

abbrev leave : List Move
leave = one Retire 0

-- a register's word from the top to the bottom
abbrev pass : ℕ → List Move
pass r = one Read r ++ sink ++ away

-- what the packet in the top stage does, and what it owes
abbrev settle : List Move
settle = one Execute 1 ++ one Insert 1 ++ sink ++ away

-- one instruction after another, whatever it reads of the registers 0 to 2; what does not fit is
-- turned away
abbrev singly : ℕ → List Move
singly zero = []
singly (suc n) = enter ++ climb ++ pass 0 ++ pass 1 ++ pass 2 ++ settle ++ leave ++ singly n

abbrev program : List Instruction
program =
    Set (register 1) 5
    ∷ Compute (unit_op 0) (register 2) (operand.Register (register 1)) (operand.Literal 6)
    ∷ BranchZero true (register 2) 9
    ∷ Load (register 3) (register 0) 2
    ∷ Load (register 4) (register 0) 99
    ∷ Store (register 0) (register 2) 1
    ∷ Load (register 5) (register 0) 1
    ∷ Jump 8
    ∷ Halt
    ∷ []

abbrev whole : Tally
whole = ran (adding program 5) two fresh sevens (singly 9)

whole_records : whole.live ≡ records (adding program 5) 9 (start sevens)
whole_records = refl

whole_count : length whole.live ≡ 9
whole_count = refl

whole_sum : get_or whole.pipes.registers 2 0 ≡ 11
whole_sum = refl

whole_trap : get_or whole.pipes.registers 15 0 ≡ 131076
whole_trap = refl

whole_loaded : get_or whole.pipes.registers 5 0 ≡ 11
whole_loaded = refl

whole_halted : whole.pipes.halted ≡ true
whole_halted = refl

-- a wrong guess: what was fetched behind it has already executed, is killed, and leaves without a
-- record
abbrev guessing : World
guessing = adding (Set (register 1) 1 ∷ BranchZero true (register 1) 3 ∷ Set (register 2) 4 ∷ Set (register 2) 9 ∷ []) 0

abbrev crowded : List Move
crowded =
    enter ++ climb ++ enter ++ settle ++ one Execute 0 ++ leave
    ++ climb ++ enter ++ one Execute 0 ++ one Insert 1 ++ sink ++ away ++ leave ++ climb ++ leave
    ++ enter ++ climb ++ settle ++ leave

abbrev mended : Tally
mended = ran guessing two fresh sevens crowded

mended_all : mended.turned_away ≡ 0
mended_all = refl

mended_word : get_or mended.pipes.registers 2 0 ≡ 4
mended_word = refl

mended_records : mended.live ≡ records guessing 3 (start sevens)
mended_records = refl

-- what is asked of a layout holds of this one, and the theorem speaks of these two runs
two_laid : Laid two
two_laid = record { low = lit≤ tt; high = lit≤ tt; memory = below }
  where
    below : (s : ℕ) → s + 1 < 2 → (able two s 5 ≡ false) × (able two s 6 ≡ false)
    below zero l = (refl, refl)
    below (suc s) l = absurd (omega arith)

abbrev ends : List Move → Run
ends moves = run_of guessing two fresh sevens moves 9

crowded_three : length (ends crowded).live ≡ 3
crowded_three = refl

singly_three : length (ends (singly 3)).live ≡ 3
singly_three = refl

never_parted : Equal (ends crowded).pipes (ends (singly 3)).pipes (ends crowded).words (ends (singly 3)).words (ends crowded).live (ends (singly 3)).live
never_parted =
    (agreement guessing.table guessing.table guessing.program guessing.handler (λ _ _ _ _ _ _. refl) two two two_laid two_laid sevens
    (ends crowded).pipes (ends (singly 3)).pipes (ends crowded).words (ends (singly 3)).words (ends crowded).live (ends (singly 3)).live
    (run built crowded 9) (run built (singly 3) 9) (crowded_three ∙ sym singly_three)).0

-- the register that a trap writes is read below it before the trap retires
abbrev trapping : World
trapping = adding (Load (register 4) (register 0) 99 ∷ Compute (unit_op 0) (register 5) (operand.Register (register 15)) (operand.Literal 1) ∷ Halt ∷ []) 1

abbrev early : Tally
early = ran trapping two fresh sevens (enter ++ climb ++ pass 0 ++ settle ++ enter ++ pass 15 ++ one Execute 0 ++ leave ++ climb ++ one Insert 1 ++ sink ++ away ++ leave)

early_all : early.turned_away ≡ 0
early_all = refl

early_word : get_or early.pipes.registers 5 0 ≡ 131073
early_word = refl

early_records : early.live ≡ records trapping 2 (start sevens)
early_records = refl

-- a load below a store that has not retired is turned away until it is at the top
abbrev storing : World
storing = adding (Store (register 0) (register 0) 1 ∷ Load (register 3) (register 0) 1 ∷ Halt ∷ []) 2

abbrev close : Tally
close = ran storing two fresh sevens (enter ++ climb ++ pass 0 ++ one Execute 1 ++ enter ++ pass 0 ++ one Execute 0 ++ leave ++ climb ++ settle ++ leave)

close_one : close.turned_away ≡ 1
close_one = refl

close_word : get_or close.pipes.registers 3 0 ≡ 0
close_word = refl

close_records : close.live ≡ records storing 2 (start sevens)
close_records = refl
