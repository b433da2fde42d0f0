-- How a file is laid out: a mark of three bytes, the version in two, numbers; behind this head its entries.
use Rattle.std.specs.Prelude.{ℕ, ◌+◌, ◌*◌, cond, not, List, length, drop, Some, None, Ok, Err, Option, Result, ◌==◌, nat_eq, nat_lt}
use Rattle.std.specs.List.{starts_with}
use Rattle.std.specs.Simd.{first_chunks}
use Rattle.fields.specs.Numbers.{two_at}
use Rattle.fields.specs.Scanning.{first_in, numbered}
use Rattle.fields.specs.declared.heads.HeadFault.{HeadFault}
use Rattle.fields.specs.declared.heads.HeadFault.TheVariants as head
use Rattle.fields.specs.declared.scanning.EntriesFault.{EntriesFault}
use Rattle.fields.specs.declared.scanning.EntriesFault.TheVariants.{Short}

-- do the bytes begin with a mark and version 1, with so many more for the numbers, or which question says no
abbrev pub headed : List ℕ → ℕ → List ℕ → Result (Unit {0}) HeadFault
headed mark numbers bytes =
    cond (nat_lt (length bytes) (5 + numbers)) (Err (head.Short (length bytes)))
    (cond (not (starts_with nat_eq bytes mark)) (Err head.Mark)
    (cond (not (two_at bytes 3 == 1)) (Err head.Version)
    (Ok tt)))

module _ {F : Type 0} (fault : ℕ → List ℕ → Option F) (width head n : ℕ) (bytes : List ℕ) where
  -- so many entries behind a head
  abbrev pub rows_of : List (List ℕ)
  rows_of = first_chunks width n (drop head bytes)

  abbrev pub split_by : Option (EntriesFault F) → Result (List (List ℕ) × List ℕ) (EntriesFault F)
  split_by None = Ok (rows_of, drop (head + width * n) bytes)
  split_by (Some wrong) = Err wrong

  -- these entries and the bytes that follow them, or why they are none: the bytes are too few, or an
  -- entry has a fault, the first of them this one
  abbrev pub split_of : Result (List (List ℕ) × List ℕ) (EntriesFault F)
  split_of =
      cond (nat_lt (length bytes) (head + width * n)) (Err (Short (length bytes)))
      (split_by (first_in (numbered fault) 0 rows_of))

-- what a reader does with a part that is right; a part's fault is told as the reader's own
abbrev pub part_then : {A B E F : Type 0} → Result A E → (E → F) → (A → Result B F) → Result B F
part_then (Ok part) tell next = next part
part_then (Err fault) tell next = Err (tell fault)
