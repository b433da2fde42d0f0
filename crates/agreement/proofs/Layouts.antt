-- A layout that was read has what is asked of it here.
use Rattle.std.proofs.Common.{◌≡◌, ℕ, ◌+◌, ◌*◌, ◌<◌, true, false, not, List, [], length, get_or, is_some, None, ap, ◌∙◌, arith}
use Rattle.std.proofs.lemmas.Bool.Decides.{nat_tests}
use Rattle.fields.specs.Numbers.{holds}
use Rattle.std.proofs.lemmas.List.{length-map, get_or-map}
use Rattle.std.proofs.lemmas.Option.{slice_get-get_or}
use Rattle.fields.proofs.Readings.{sound_at}
use Rattle.layout.specs.declared.layouts.Layout.{Layout}
use Rattle.layout.specs.Able.{able}
use Rattle.layout.specs.Meaning.{sets_in}
use Rattle.layout.specs.Reading.{memoryless, set_wrong, set_wrong_at, fault_in, set_in, sets_of}
use Rattle.agreement.specs.Layouts.{MemoryAtTop, Laid}

-- bits 5 and 6 of a set without loads and stores are 0
bits_clear : (set : ℕ) → memoryless set ≡ true → (holds set 5 ≡ false) × (holds set 6 ≡ false)
bits_clear set h = grind (arith, nat_tests)

sound_set : (n s set : ℕ) → s + 1 < n → set_wrong n s set ≡ None → memoryless set ≡ true
sound_set n s set l h = grind (arith, nat_tests)

unable : (sets : List ℕ) (s operation : ℕ) → holds (get_or sets s 0) operation ≡ false → able sets s operation ≡ false
unable sets s operation h = grind arith

module _ (sets : List (List ℕ)) (sound : not (is_some (fault_in sets)) ≡ true) where
  read_memory : MemoryAtTop (sets_of sets)
  read_memory s l =
      let count = length-map sets set_in in
      let here : s < length sets = omega arith in
      let row = get_or sets s [] in
      let is : get_or (sets_of sets) s 0 ≡ set_in row = get_or-map set_in sets s [] 0 here in
      let right = sound_at (set_wrong_at (length sets)) s sets row sound (slice_get-get_or sets s [] here) in
      let clear = bits_clear (set_in row) (sound_set (length sets) s (set_in row) (omega arith) right) in (
        unable (sets_of sets) s 5 (ap (λ set. holds set 5) is ∙ clear.0),
        unable (sets_of sets) s 6 (ap (λ set. holds set 6) is ∙ clear.1),
      )

pub read_laid : (l : Layout) → Laid (sets_in l)
read_laid l =
    let count = length-map l.sets.now set_in in
    let read = l.read in
    record {
      low = omega arith;
      high = omega arith;
      memory = read_memory l.sets.now read.2;
    }
