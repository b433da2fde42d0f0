-- The sets of stages: how many there are, and which is a stage's.
use Rattle.std.proofs.Common.{◌≡◌, ℕ, ◌<◌, List, length, get_or}
use Rattle.std.proofs.lemmas.List.{length-map, get_or-map}
use Rattle.layout.specs.Reading.{set_in, sets_of}

pub sets_count : (sets : List (List ℕ)) → length (sets_of sets) ≡ length sets
sets_count sets = length-map sets set_in

pub set_at : (sets : List (List ℕ)) (k : ℕ) (d : List ℕ) → k < length sets → get_or (sets_of sets) k 0 ≡ set_in (get_or sets k d)
set_at sets k d l = get_or-map set_in sets k d 0 l
