use Rattle.std.proofs.Common.{◌≡◌, ◌∙◌, sym, ap, Some}
use Rattle.std.specs.Option.{option_copied_mut}
use Rattle.std.specs.Str.{bytes_eq}
use Rattle.std.proofs.lemmas.Bool.{and_parts}
use Rattle.indexmap.specs.IndexMap.{get_by}
use Rattle.txn_table.proofs.Listing.{adds-at}
use Rattle.txn_table.proofs.waiters.Waiters.add.Goals as goal

pub returns-in-Some : goal.returns-in-Some
returns-in-Some c =
    let id = c.args.id.now in
    let old = c.args.self.now in
    let v = c.in-Some.places.now in
    let v' = c.add_place-added.new.places in
    let found : get_by (bytes_eq id) old.lists ≡ Some v = sym c.get_mut.ensures.value ∙ ap option_copied_mut c.in-Some.is in
    adds-at old _ id v v' c.args.place found (c.get_mut.follows.holds v').0
    (λ w.
    let parts = and_parts old.whole c.add_place-added.result (sym c.both-self.ensures ∙ w) in
    (parts.0, c.add_place-added.ensures parts.1))
