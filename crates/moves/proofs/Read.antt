-- A move list that was read: its head was right, and its entries were split off.
use Rattle.std.proofs.Common.{◌≡◌, ℕ, ◌≤◌, List, Ok, sym, arith}
use Rattle.std.proofs.lemmas.Bool.Decides.{nat_tests}
use Rattle.fields.specs.Files.{split_of}
use Rattle.fields.proofs.Readings.{split_rows}
use Rattle.moves.specs.Reading.{WasRead, move_wrong, count_of}

-- what its head alone says: at most 16,000 moves
pub few : (bs : List ℕ) (n : ℕ) → Ok n ≡ count_of bs → n ≤ 16000
few bs n e = grind (arith, nat_tests)

pub was_read : (bs : List ℕ) (entries : List (List ℕ)) (rest : List ℕ) (n : ℕ) → count_of bs ≡ Ok n → split_of (λ _. move_wrong) 2 7 n bs ≡ Ok (entries, rest) → WasRead entries
was_read bs entries rest n e s =
    let split = split_rows (λ _. move_wrong) 2 7 n bs entries rest s in
    (omega (arith, split.0, few bs n (sym e)), split.1)
