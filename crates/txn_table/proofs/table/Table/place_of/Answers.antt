use Rattle.std.proofs.Common.{◌≡◌, Some, sym, ap, ◌∙◌}
use Rattle.std.specs.Prelude.{position}
use Rattle.std.specs.Str.{bytes_eq}
use Rattle.txn_table.specs.Tables.{TableValue, place_of}
use Rattle.txn_table.proofs.Places.{entry_placed}
use Rattle.txn_table.proofs.table.Table.place_of.Goals as goal

pub returns-in-Some-clause-found : goal.returns-in-Some-clause-found
returns-in-Some-clause-found c place is =
    let id = c.args.id.now in
    let at : place_of c.args.self.now.entries id ≡ Some c.in-Some.place =
    ap (λ (t : TableValue). place_of t.entries id) (sym c.self.view_is) ∙ ap (position (bytes_eq id)) (sym c.self.invariant.ids)
    ∙ sym c.get_index_of.ensures.index ∙ c.in-Some.is in
    entry_placed c.args.self.now.entries id place (at ∙ is)
