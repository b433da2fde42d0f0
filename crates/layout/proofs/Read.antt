-- A layout that was read: its head was right, and its sets were split off.
use Rattle.std.proofs.Common.{◌≡◌, ℕ, ◌≤◌, not, is_some, List, length, Ok, sym, ap, ◌∙◌, arith}
use Rattle.std.proofs.lemmas.Bool.Decides.{nat_tests}
use Rattle.fields.specs.Files.{split_of}
use Rattle.fields.specs.Scanning.{first_in, numbered}
use Rattle.fields.proofs.Readings.{split_rows}
use Rattle.layout.specs.Reading.{WasRead, set_wrong_at, stages_of}

-- what its head alone says: 2 to 16 stages
pub record Bounds (bs : List ℕ) (n : ℕ) : Type 0 where
  pub long : 6 ≤ length bs
  pub low : 2 ≤ n
  pub high : n ≤ 16

pub bounds : (bs : List ℕ) (n : ℕ) → Ok n ≡ stages_of bs → Bounds bs n
bounds bs n e = record { long = grind (arith, nat_tests); low = grind (arith, nat_tests); high = grind (arith, nat_tests) }

pub was_read : (bs : List ℕ) (sets : List (List ℕ)) (rest : List ℕ) (n : ℕ) → stages_of bs ≡ Ok n → split_of (set_wrong_at n) 4 6 n bs ≡ Ok (sets, rest) → WasRead sets
was_read bs sets rest n e s =
    let split = split_rows (set_wrong_at n) 4 6 n bs sets rest s in
    let head = bounds bs n (sym e) in
    let count = split.0 in
    (omega (arith, count, head.low), omega (arith, count, head.high), ap (λ (m : ℕ). not (is_some (first_in (numbered (set_wrong_at m)) 0 sets))) count ∙ split.1)
