use Rattle.fields.proofs.Cuts.{cut_rows}
use Rattle.fields.proofs.scanning.rows_behind.Goals as goal

pub returns : goal.returns
returns g c =
    let behind = c.in_ok-behind.ensures.lookup.0 in
    let wide = rw c.from.ensures at c.in_ok-width.ensures.1 in
    cut_rows g.row.N c.args.head c.args.count _ _ _ _ _ _ c.requires behind.0 behind.2 wide c.in_ok-front.ensures.cases c.as_chunks.ensures.front
