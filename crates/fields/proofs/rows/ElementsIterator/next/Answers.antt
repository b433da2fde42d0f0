use Rattle.std.proofs.Common.{◌<◌, length, sym, arith}
use Rattle.std.proofs.lemmas.Option.{slice_get_within}
use Rattle.fields.proofs.rows.ElementsIterator.next.Goals as goal

-- an element was there, so its number is one of those that 16 bits count
pub overflow_add-self : goal.overflow_add-self
overflow_add-self g c =
    let few = g.met.R.Row.few c.args.self.now.row in
    let within : c.args.self.now.index < length (g.R.Row.elements c.args.self.now.row) = slice_get_within _ _ _ (sym c.in_ok-next.ensures) in
    omega arith
