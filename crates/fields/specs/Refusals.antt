-- How a refusal is printed: NO, its number and its place, a blank between; the refusals of a head.
use Rattle.std.specs.Prelude.{ℕ, List, ◌∷◌, ◌++◌, decimal}
use Rattle.fields.specs.declared.heads.HeadFault.{HeadFault}
use Rattle.fields.specs.declared.heads.HeadFault.TheVariants.{Short, Mark, Version}
use Rattle.fields.specs.declared.refusal.Refusal.{Refusal}

-- 78, 79 and 32 are N, O and the blank
abbrev pub refusal_text : Refusal → List ℕ
refusal_text refusal = 78 ∷ (79 ∷ (32 ∷ (decimal refusal.number ++ (32 ∷ decimal refusal.place))))

-- the refusal of a head, by the numbers of its questions: too short, another mark, another version
abbrev pub head_refusal : ℕ → ℕ → ℕ → HeadFault → Refusal
head_refusal short mark version (Short handed) = record { number = short; place = handed }
head_refusal short mark version Mark = record { number = mark; place = 0 }
head_refusal short mark version Version = record { number = version; place = 3 }
