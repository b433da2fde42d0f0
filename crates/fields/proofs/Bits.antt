-- A number below 2 ^ 32 has no bit from 32 on.
use Rattle.std.proofs.Common.{◌≡◌, ℕ, zero, ⊎_elim, ◌/◌, ◌^◌, ◌<◌, ◌≤◌, false, arith}
use Rattle.std.proofs.Math.Nat.{div-eq_of_lt}
use Rattle.std.proofs.lemmas.Bool.{cases_eq}
use Rattle.std.proofs.lemmas.Nat.{pow_below}
use Rattle.fields.specs.Numbers.{holds}

pub no_bit : (set operation : ℕ) → set < 2 ^ 32 → 32 ≤ operation → holds set operation ≡ false
no_bit set operation l h =
    let wide : set < 2 ^ operation = ⊎_elim (λ e. rw e l) (λ ne. let m : 2 ^ 32 < 2 ^ operation = pow_below 32 operation (omega arith) in omega arith) (cases_eq operation 32) in
    let none : set / 2 ^ operation ≡ zero = div-eq_of_lt wide in
    rw none (grind arith)
