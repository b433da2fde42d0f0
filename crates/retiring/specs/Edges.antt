-- Where a number decides: what stands on both sides of it.
use Rattle.std.specs.Prelude.{◌≡◌, ℕ, ◌<◌, ◌≤◌, false, List, [], ◌∷◌, Some, Ok, Err, codes, slice_index}
use Rattle.fields.specs.Numbers.{byte_at, two_at}
use Rattle.fields.specs.Files.{headed}
use Rattle.instruction.specs.declared.instructions.Instruction.{Instruction}
use Rattle.instruction.specs.declared.instructions.Instruction.TheVariants.{Jump, Compute}
use Rattle.instruction.specs.declared.instructions.Operand.TheVariants.{Register, Literal}
use Rattle.instruction.specs.Named.{register, unit_op}
use Rattle.image.specs.declared.faults.ImageFault.TheVariants.{Count, Handler}
use Rattle.image.specs.Faults.{image_refusal}
use Rattle.image.specs.Reading.{head_of, image_of}
use Rattle.layout.specs.declared.faults.LayoutFault.TheVariants.{Stages}
use Rattle.layout.specs.Faults.{layout_refusal}
use Rattle.layout.specs.Reading.{layout_of}
use Rattle.unit.specs.Whole.{whole_of}
use Rattle.effect.specs.Effects.{Table}
use Rattle.stepper.specs.Machine.{World, start, execution}
use Rattle.pipes.specs.declared.answers.DrainRefusal.TheVariants.{ShortLog}
use Rattle.pipes.specs.declared.state.Pipes.{Pipes}
use Rattle.pipes.specs.Draining.{drain_number, drain_refusal}

abbrev world : Table → List Instruction → ℕ → World
world table program handler = record { table = table; program = program; handler = handler }

-- four jumps, each to the next place, and at place 4 a quotient by 0
abbrev quotient_at_four : List Instruction
quotient_at_four =
    Jump 1 ∷ (Jump 2 ∷ (Jump 3 ∷ (Jump 4 ∷ (Compute (unit_op 8) (register 1) (Register (register 2)) (Literal 0) ∷ []))))

pub record Edges : Type 0 where
  -- an image has 4,096 records at most, and its handler is below their number
  pub most_records : (bytes : List ℕ) → headed (codes "CFP") 4 bytes ≡ Ok tt → two_at bytes 5 ≡ 4096 → two_at bytes 7 < 4096 →
      head_of bytes ≡ Ok (record { version = 1; count = 4096; handler = two_at bytes 7 })
  pub one_record_more : (bytes : List ℕ) → headed (codes "CFP") 4 bytes ≡ Ok tt → two_at bytes 5 ≡ 4097 → image_of bytes ≡ Err Count
  pub refused_for_count : (image_refusal Count).number ≡ 4
  pub handler_at_count : (bytes : List ℕ) → headed (codes "CFP") 4 bytes ≡ Ok tt → 0 < two_at bytes 5 → two_at bytes 5 ≤ 4096 → two_at bytes 7 ≡ two_at bytes 5 →
      image_of bytes ≡ Err Handler
  pub refused_for_handler : (image_refusal Handler).number ≡ 5
  -- a layout has 2 to 16 stages
  pub one_stage : (bytes : List ℕ) → headed (codes "CFL") 1 bytes ≡ Ok tt → byte_at bytes 5 ≡ 1 → layout_of bytes ≡ Err Stages
  pub seventeen_stages : (bytes : List ℕ) → headed (codes "CFL") 1 bytes ≡ Ok tt → byte_at bytes 5 ≡ 17 → layout_of bytes ≡ Err Stages
  pub refused_for_stages : (layout_refusal Stages).number ≡ 13
  -- what a trap puts into r15: of a quotient by 0 at place 4, and of a jump to 70,000 in an image of three records
  pub quotient_by_zero : (handler : ℕ) (words : List ℕ) → slice_index (execution (world whole_of quotient_at_four handler) 5 (start words)).registers 15 ≡ 1114116
  pub jump_past_the_end : (table : Table) (i j : Instruction) (handler : ℕ) (words : List ℕ) →
      slice_index (execution (world table (Jump 70000 ∷ (i ∷ (j ∷ []))) handler) 2 (start words)).registers 15 ≡ 201072
  -- two stages ask for 24 places
  pub one_place_short : (s t : ℕ) (P : Pipes) → P.halted ≡ false → drain_refusal (s ∷ (t ∷ [])) P 23 ≡ Some ShortLog
  pub refused_for_room : drain_number ShortLog ≡ 39
