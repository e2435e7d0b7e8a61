use Rattle.std.proofs.Common.{◌≡◌, ℕ, List, ap, subst, ◌∙◌}
use Rattle.std.specs.Prelude.{IfOk, IfSome}
use Rattle.basil_types.specs.declared.party.Decision.{Decision}
use Rattle.txn_table.specs.declared.released.Home.{Home}
use Rattle.txn_table.specs.declared.released.Supposed.{Supposed}
use Rattle.txn_table.specs.Released.{released_among}
use Rattle.txn_table.specs.Shown.{entry_of}
use Rattle.txn_table.specs.Waiters.{places_on}
use Rattle.txn_table.proofs.Listing.{among}
use Rattle.txn_table.proofs.table.Table.released.Goals as goal

pub returns-in-Some : goal.returns-in-Some
returns-in-Some c =
    let home : Home = record { cluster = c.args.cluster.now; shard = c.args.shard } in
    let s : Supposed = record { place = c.args.place; outcome = c.args.outcome } in
    let es = c.args.self.now.entries in
    let e = entry_of c.entry.result.now in
    let listed : c.in-Some.places.now ≡ places_on c.id.result es =
    subst (λ o. IfSome o (λ places. places.now ≡ places_on c.id.result es)) c.in-Some.is c.places_on.ensures in
    subst (λ (xs : List (ℕ × Decision)). IfOk c.released_among.result (λ r. r.items ≡ xs))
    (ap (released_among home s es) (listed ∙ ap (λ id. places_on id es) c.id.ensures) ∙ among home s es e c.entry.ensures.entry)
    c.released_among.ensures
