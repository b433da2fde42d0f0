-- Registers and a unit's operations: their numbers, and which the low four bits of a number name.
use Rattle.std.specs.Prelude.{ℕ, ◌%◌}
use Rattle.std.proofs.Common.{mod-lt, lit<}
use Rattle.instruction.specs.declared.numbers.Register.{Register}
use Rattle.instruction.specs.declared.numbers.UnitOp.{UnitOp}

abbrev pub register_number : Register → ℕ
register_number r = r.number

abbrev pub unit_op_number : UnitOp → ℕ
unit_op_number op = op.number

abbrev pub register : ℕ → Register
register n = record { number = n % 16; below = mod-lt n (lit< tt) }

abbrev pub unit_op : ℕ → UnitOp
unit_op n = record { number = n % 16; below = mod-lt n (lit< tt) }
