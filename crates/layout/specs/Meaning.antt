-- What a layout means: the set of each stage.
use Rattle.std.specs.Prelude.{ℕ, List}
use Rattle.layout.specs.declared.layouts.Layout.{Layout}
use Rattle.layout.specs.Reading.{Contents, sets_of}

-- the set of each stage, stage 0 first
abbrev pub sets_in : Layout → List ℕ
sets_in l = sets_of l.sets.now

-- a layout and what follows it, as reading tells them
abbrev pub told : Layout → List ℕ → Contents
told l rest = record { sets = sets_in l; rest = rest }
