-- An error that is told is the answer.
use Rattle.std.proofs.Common.{◌≡◌, Ok, Err, IsErrAnd, Result, ap}

pub err_is : {A B : Type 0} (r : Result A B) (x : B) → IsErrAnd r (λ e. e ≡ x) → r ≡ Err x
err_is (Ok a) x h = elim h [ ]
err_is (Err e) x h = ap Err h
