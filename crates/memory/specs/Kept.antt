-- What no write changes of a memory.
use Rattle.std.specs.Prelude.{ℕ, List}

-- the names of the references through which the words are lent, and what else lies behind them
pub record Kept : Type 0 where
  pub roots : List ℕ
  pub beyond : List (List ℕ)
