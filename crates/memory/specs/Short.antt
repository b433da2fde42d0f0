-- Every memory has at most 65,536 words.
use Rattle.std.specs.Prelude.{◌≡◌, ℕ, ◌+◌, ◌≤◌, Bool, true, false, cond, List, [], length, take, drop, nat_le}
use Rattle.std.proofs.Common.{arith, length-take, length-drop}
use Rattle.memory.specs.Windows.{window_of}

pub exactly_short : (ws : List ℕ) → length ws ≡ 64 → length ws ≤ 65536
exactly_short ws h = omega arith

pub take_short : (ws : List ℕ) → length (take 65536 ws) ≤ 65536
take_short ws = simp length-take (omega arith)

either_short : (b : Bool) (xs : List ℕ) → length xs ≤ 65536 → length (cond b xs []) ≤ 65536
either_short true xs h = h
either_short false xs h = omega arith

pub window_short : (ws : List ℕ) (base size : ℕ) → length ws ≤ 65536 → length (window_of ws base size) ≤ 65536
window_short ws base size h = either_short (nat_le (base + size) (length ws)) (take size (drop base ws)) (simp (length-take, length-drop) (omega arith))
