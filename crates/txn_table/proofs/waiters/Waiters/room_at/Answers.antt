use Rattle.std.proofs.Common.{◌≡◌, ◌∙◌, sym, ap, Some, refl}
use Rattle.std.specs.Option.{option_copied_mut}
use Rattle.std.specs.Str.{bytes_eq}
use Rattle.indexmap.specs.IndexMap.{get_by}
use Rattle.txn_table.proofs.Listing.{same-at, same-then}
use Rattle.txn_table.proofs.waiters.Waiters.room_at.Goals as goal

pub returns-in-Some : goal.returns-in-Some
returns-in-Some c =
    let id = c.args.id.now in
    let middle = c.add_id.new.self in
    let v = c.in-Some.places.now in
    let v' = c.room_in.new.places in
    let found : get_by (bytes_eq id) middle.lists ≡ Some v = sym c.get_mut.ensures.value ∙ ap option_copied_mut c.in-Some.is in
    same-then _ middle _ c.in_ok-add_id.ensures (same-at middle _ id v v' found (c.get_mut.follows.holds v').0 refl c.room_in.ensures)
