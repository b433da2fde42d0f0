-- What every unit promises of a fault.
use Rattle.std.specs.Prelude.{ℕ, ◌≤◌, Err, Result, IfErr}
use Rattle.unit.specs.declared.outcome.Fault.{Fault}

-- the outcome that is this fault
abbrev pub faulty : ℕ → Result ℕ Fault
faulty number = Err (record { number = number })

-- a fault is a number from 1 to 15
abbrev pub FaultInRange : Result ℕ Fault → Type 0
FaultInRange outcome = IfErr outcome (λ fault. (1 ≤ fault.number) × (fault.number ≤ 15))
