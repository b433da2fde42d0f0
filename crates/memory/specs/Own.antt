-- A memory that owns its words.
use Rattle.std.specs.Prelude.{ℕ, List}
use Rattle.memory.specs.declared.own.OwnWords.{OwnWords}

-- every word that it owns
abbrev pub own_in : OwnWords → List ℕ
own_in own = own.cells
