use Rattle.std.proofs.Common.{◌≡◌, subst}
use Rattle.std.specs.Prelude.{IfSome}
use Rattle.txn_table.specs.Tables.{TableValue}
use Rattle.txn_table.specs.Kept.{shown}
use Rattle.txn_table.specs.Waiters.{places_on}
use Rattle.txn_table.proofs.Listing.{listed-found}
use Rattle.txn_table.proofs.table.Table.places_on.Goals as goal

pub returns : goal.returns
returns c =
    subst (λ (t : TableValue). IfSome c.find.result (λ places. places.now ≡ places_on c.args.id.now t.entries)) c.self.view_is
    (listed-found c.self.inside.waiters
    (shown c.self.inside.entries) c.args.id.now c.find.result c.self.invariant.waits c.find.ensures.whole c.find.ensures.places)
