-- What a layout is read as, from a list of bytes.
use Rattle.std.specs.Prelude.{◌≡◌, ℕ, ◌+◌, ◌/◌, ◌%◌, ◌≤◌, Bool, true, cond, not, ◌&&◌, List, length, is_some, Some, None, Ok, Err, Option, Result, ◌==◌, nat_le, nat_lt, codes, map}
use Rattle.fields.specs.declared.scanning.EntriesFault.{EntriesFault}
use Rattle.fields.specs.Numbers.{byte_at, four_at}
use Rattle.fields.specs.Scanning.{first_in, numbered}
use Rattle.fields.specs.Files.{headed, split_of, part_then}
use Rattle.layout.specs.declared.faults.SetFault.{SetFault}
use Rattle.layout.specs.declared.faults.SetFault.TheVariants.{Unheard, MemoryBelowTop}
use Rattle.layout.specs.declared.faults.LayoutFault.{LayoutFault}
use Rattle.layout.specs.declared.faults.LayoutFault.TheVariants.{Head, Stages, Sets}

-- bits 0, 1 and 7 to 15 are 0: a stage can be able for operations 2 to 6 and 16 to 31 only
abbrev pub heard : ℕ → Bool
heard set = (set % 4) == 0 && (set / 128 % 512) == 0

-- bits 5 and 6 are 0: no load and no store
abbrev pub memoryless : ℕ → Bool
memoryless set = (set / 32 % 4) == 0

-- why a number is no set for a stage, of so many
abbrev pub set_wrong : ℕ → ℕ → ℕ → Option SetFault
set_wrong n stage set =
    cond (not (heard set)) (Some Unheard)
    (cond (nat_lt (stage + 1) n && not (memoryless set)) (Some MemoryBelowTop)
    None)

abbrev pub set_wrong_at : ℕ → ℕ → List ℕ → Option SetFault
set_wrong_at n stage bytes = set_wrong n stage (four_at bytes 0)

-- the first fault of the sets of a layout, one for each stage
abbrev pub fault_in : List (List ℕ) → Option (EntriesFault SetFault)
fault_in sets = first_in (numbered (set_wrong_at (length sets))) 0 sets

-- the answer to each question that a layout is asked was yes: of its number of stages and their sets
abbrev pub WasRead : List (List ℕ) → Type 0
WasRead sets = (2 ≤ length sets) × (length sets ≤ 16) × (not (is_some (fault_in sets)) ≡ true)

-- the set of a stage, as a number
abbrev pub set_in : List ℕ → ℕ
set_in bytes = four_at bytes 0

abbrev pub sets_of : List (List ℕ) → List ℕ
sets_of sets = map set_in sets

-- the number of stages behind the mark CFL and the version, or the first question of the head whose answer is no
abbrev pub stages_of : List ℕ → Result ℕ LayoutFault
stages_of bytes =
    part_then (headed (codes "CFL") 1 bytes) Head
    (λ _. cond (not (nat_le 2 (byte_at bytes 5) && nat_le (byte_at bytes 5) 16)) (Err Stages) (Ok (byte_at bytes 5)))

-- what reading a layout tells: the set of each stage, stage 0 first
pub record Contents : Type 0 where
  pub sets : List ℕ
  pub rest : List ℕ

abbrev pub contents : List (List ℕ) × List ℕ → Contents
contents split = record { sets = sets_of split.0; rest = split.1 }

-- the sets behind the head, or the first question of them whose answer is no
abbrev pub with_stages : List ℕ → ℕ → Result Contents LayoutFault
with_stages bytes n = part_then (split_of (set_wrong_at n) 4 6 n bytes) Sets (λ split. Ok (contents split))

-- the layout that the bytes begin with, or the first question whose answer is no
abbrev pub layout_of : List ℕ → Result Contents LayoutFault
layout_of bytes = part_then (stages_of bytes) (λ fault. fault) (with_stages bytes)
