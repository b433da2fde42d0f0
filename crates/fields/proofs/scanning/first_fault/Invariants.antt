use Rattle.std.proofs.Common.{◌≡◌, drop}
use Rattle.fields.specs.Scanning.{first_in, numbered}
use Rattle.fields.proofs.scanning.first_fault.Given as goal

-- the rows that are left decide as all do
abbrev pub invariant-loop-index : goal.invariant-loop-index
invariant-loop-index g l =
    first_in (numbered (g.E.Entries.fault l.entries)) l.index (drop l.index l.rows) ≡ first_in (numbered (g.E.Entries.fault l.entries)) 0 l.rows
