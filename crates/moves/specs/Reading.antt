-- What a move list is read as, from a list of bytes.
use Rattle.std.specs.Prelude.{◌≡◌, ℕ, ◌≤◌, true, cond, not, List, length, is_some, Ok, Err, Option, Result, nat_le, codes, map}
use Rattle.std.specs.Result.{result_err, result_unwrap_or}
use Rattle.fields.specs.declared.scanning.EntriesFault.{EntriesFault}
use Rattle.fields.specs.Numbers.{byte_at, two_at}
use Rattle.fields.specs.Scanning.{first_in, numbered}
use Rattle.fields.specs.Files.{headed, split_of, part_then}
use Rattle.moves.specs.declared.faults.MoveFault.{MoveFault}
use Rattle.moves.specs.declared.faults.MoveListFault.{MoveListFault}
use Rattle.moves.specs.declared.faults.MoveListFault.TheVariants.{Head, Count, Moves}
use Rattle.moves.specs.declared.kinds.Move.{Move}
use Rattle.moves.specs.declared.kinds.MoveKind.TheVariants.{Fetch}
use Rattle.moves.specs.Decoding.{move_of}

-- the move that the bytes begin with
abbrev pub move_in : List ℕ → Result Move MoveFault
move_in bytes = move_of (byte_at bytes 0) (byte_at bytes 1)

-- why the bytes begin with no move
abbrev pub move_wrong : List ℕ → Option MoveFault
move_wrong bytes = result_err (move_in bytes)

-- the first fault of entries in a row
abbrev pub fault_in : List (List ℕ) → Option (EntriesFault MoveFault)
fault_in entries = first_in (numbered (λ _. move_wrong)) 0 entries

-- the answer to each question that a move list is asked was yes: of its number of moves and its entries
abbrev pub WasRead : List (List ℕ) → Type 0
WasRead entries = (length entries ≤ 16000) × (not (is_some (fault_in entries)) ≡ true)

-- the move that an entry is; in a list each is one
abbrev pub entry_in : List ℕ → Move
entry_in bytes = result_unwrap_or (move_in bytes) (record { kind = Fetch; place = 0 })

-- the moves of entries in a row
abbrev pub list_of : List (List ℕ) → List Move
list_of entries = map entry_in entries

-- the number of moves behind the mark CFM and the version, or the first question of the head whose answer is no
abbrev pub count_of : List ℕ → Result ℕ MoveListFault
count_of bytes =
    part_then (headed (codes "CFM") 2 bytes) Head
    (λ _. cond (not (nat_le (two_at bytes 5) 16000)) (Err Count) (Ok (two_at bytes 5)))

-- what reading a move list tells
pub record Contents : Type 0 where
  pub moves : List Move
  pub rest : List ℕ

abbrev pub contents : List (List ℕ) × List ℕ → Contents
contents split = record { moves = list_of split.0; rest = split.1 }

-- the entries behind the head, or the first question of them whose answer is no
abbrev pub with_count : List ℕ → ℕ → Result Contents MoveListFault
with_count bytes n = part_then (split_of (λ _. move_wrong) 2 7 n bytes) Moves (λ split. Ok (contents split))

-- the move list that the bytes begin with, or the first question whose answer is no
abbrev pub moves_of : List ℕ → Result Contents MoveListFault
moves_of bytes = part_then (count_of bytes) (λ fault. fault) (with_count bytes)
