-- The table of the unit for whole numbers, over words below 2 ^ 32.
use Rattle.std.specs.Prelude.{ℕ, ◌+◌, ◌-◌, ◌*◌, ◌/◌, ◌%◌, ◌^◌, Ok, Result, ◌==◌, nat_lt, if◌then◌else◌}
use Rattle.std.specs.Int.Bits.{bit_and, bit_or, bit_xor}
use Rattle.unit.specs.declared.outcome.Fault.{Fault}
use Rattle.unit.specs.Faults.{faulty}

abbrev pub sum_of : ℕ → ℕ → ℕ
sum_of a b = (a + b) % 2 ^ 32

abbrev pub difference_of : ℕ → ℕ → ℕ
difference_of a b = (a + (2 ^ 32 - b)) % 2 ^ 32

abbrev pub shifted_left : ℕ → ℕ → ℕ
shifted_left a b = a * 2 ^ (b % 32) % 2 ^ 32

abbrev pub shifted_right : ℕ → ℕ → ℕ
shifted_right a b = a / 2 ^ (b % 32)

abbrev pub less_of : ℕ → ℕ → ℕ
less_of a b = if nat_lt a b then 1 else 0

abbrev pub quotient_of : ℕ → ℕ → Result ℕ Fault
quotient_of a b = if b == 0 then faulty 1 else Ok (a / b)

-- the bits that a shift left loses come in from the right
abbrev pub rotated_left : ℕ → ℕ → ℕ
rotated_left a b = bit_or (a * 2 ^ (b % 32) % 2 ^ 32) (a / 2 ^ ((32 - b % 32) % 32))

abbrev pub whole_of : ℕ → ℕ → ℕ → Result ℕ Fault
whole_of operation a b =
    if operation == 0 then Ok (sum_of a b)
    else (if operation == 1 then Ok (difference_of a b)
    else (if operation == 2 then Ok (bit_and a b)
    else (if operation == 3 then Ok (bit_or a b)
    else (if operation == 4 then Ok (bit_xor a b)
    else (if operation == 5 then Ok (shifted_left a b)
    else (if operation == 6 then Ok (shifted_right a b)
    else (if operation == 7 then Ok (less_of a b)
    else (if operation == 8 then quotient_of a b
    else (if operation == 9 then Ok (rotated_left a b)
    else faulty 15)))))))))
