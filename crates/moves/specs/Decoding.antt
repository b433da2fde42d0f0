-- A move of two bytes: its kind and its place.
use Rattle.std.specs.Prelude.{ℕ, Bool, cond, Some, None, Ok, Err, Option, Result, ◌==◌, nat_le}
use Rattle.moves.specs.declared.faults.MoveFault.{MoveFault}
use Rattle.moves.specs.declared.faults.MoveFault.TheVariants.{Kind, Place}
use Rattle.moves.specs.declared.kinds.Move.{Move}
use Rattle.moves.specs.declared.kinds.MoveKind.{MoveKind}
use Rattle.moves.specs.declared.kinds.MoveKind.TheVariants.{Fetch, Raise, Lower, Execute, Insert, Read, Retire, Drop}

abbrev pub number_of : MoveKind → ℕ
number_of Fetch = 1
number_of Raise = 2
number_of Lower = 3
number_of Execute = 4
number_of Insert = 5
number_of Read = 6
number_of Retire = 7
number_of Drop = 8

abbrev pub kind_of : ℕ → Option MoveKind
kind_of number =
    cond (number == 1) (Some Fetch)
    (cond (number == 2) (Some Raise)
    (cond (number == 3) (Some Lower)
    (cond (number == 4) (Some Execute)
    (cond (number == 5) (Some Insert)
    (cond (number == 6) (Some Read)
    (cond (number == 7) (Some Retire)
    (cond (number == 8) (Some Drop)
    None)))))))

-- a fetch, a retirement and a drop have no place but 0; every other place is at most 15
abbrev pub fits : MoveKind → ℕ → Bool
fits Fetch place = place == 0
fits Raise place = nat_le place 15
fits Lower place = nat_le place 15
fits Execute place = nat_le place 15
fits Insert place = nat_le place 15
fits Read place = nat_le place 15
fits Retire place = place == 0
fits Drop place = place == 0

abbrev move_by : Option MoveKind → ℕ → Result Move MoveFault
move_by None place = Err Kind
move_by (Some kind) place = cond (fits kind place) (Ok (record { kind = kind; place = place })) (Err Place)

-- the move of two bytes, or the first question whose answer is no
abbrev pub move_of : ℕ → ℕ → Result Move MoveFault
move_of kind place = move_by (kind_of kind) place
