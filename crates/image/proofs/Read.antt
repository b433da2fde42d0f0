-- An image that was read: its head was right, and its records were split off.
use Rattle.std.proofs.Common.{◌≡◌, ℕ, ◌<◌, ◌≤◌, List, length, Ok, sym, arith}
use Rattle.std.proofs.lemmas.Bool.Decides.{nat_tests}
use Rattle.fields.specs.Files.{split_of}
use Rattle.fields.proofs.Readings.{split_rows}
use Rattle.image.specs.declared.images.Head.{Head}
use Rattle.image.specs.Reading.{WasRead, decoder_fault, head_of}

-- what its head alone says: a count of at most 4,096, and a handler below it
pub record Bounds (bs : List ℕ) (h : Head) : Type 0 where
  pub long : 9 ≤ length bs
  pub few : h.count ≤ 4096
  pub low : h.handler < h.count

pub bounds : (bs : List ℕ) (h : Head) → Ok h ≡ head_of bs → Bounds bs h
bounds bs h e = record { long = grind (arith, nat_tests); few = grind (arith, nat_tests); low = grind (arith, nat_tests) }

pub was_read : (bs : List ℕ) (records : List (List ℕ)) (rest : List ℕ) (h : Head) → head_of bs ≡ Ok h → split_of (λ _. decoder_fault) 8 9 h.count bs ≡ Ok (records, rest) → WasRead h.handler records
was_read bs records rest h e s =
    let split = split_rows (λ _. decoder_fault) 8 9 h.count bs records rest s in
    let head = bounds bs h (sym e) in
    (omega (arith, split.0, head.few), omega (arith, split.0, head.low), split.1)
