-- The moves of a list: how many there are, and which has a number.
use Rattle.std.proofs.Common.{◌≡◌, ℕ, ◌<◌, true, not, List, length, get_or, is_some, None}
use Rattle.std.specs.Result.{result_ok}
use Rattle.std.specs.List.{slice_get}
use Rattle.std.proofs.lemmas.List.{length-map}
use Rattle.fields.proofs.Readings.{read_none, read_some}
use Rattle.moves.specs.declared.kinds.MoveKind.TheVariants.{Fetch}
use Rattle.moves.specs.Reading.{move_in, fault_in, entry_in, list_of}

pub list_count : (entries : List (List ℕ)) → length (list_of entries) ≡ length entries
list_count entries = length-map entries entry_in

pub list_past : (k : ℕ) (entries : List (List ℕ)) → slice_get entries k ≡ None → slice_get (list_of entries) k ≡ None
list_past = read_none move_in (record { kind = Fetch; place = 0 })

pub list_at : (k : ℕ) (entries : List (List ℕ)) (row : List ℕ) → k < length entries → row ≡ get_or entries k row → not (is_some (fault_in entries)) ≡ true → slice_get (list_of entries) k ≡ result_ok (move_in row)
list_at = read_some move_in (record { kind = Fetch; place = 0 })
