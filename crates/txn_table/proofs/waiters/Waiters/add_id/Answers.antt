use Rattle.std.proofs.Common.{◌≡◌, ◌∙◌, sym, refl, false, Option, None, Some}
use Rattle.std.specs.Prelude.{is_some}
use Rattle.std.specs.Str.{bytes_eq}
use Rattle.indexmap.specs.IndexMap.{get_by}
use Rattle.txn_table.proofs.Listing.{same-new}
use Rattle.txn_table.proofs.waiters.Waiters.add_id.Goals as goal

nothing : {A : Type 0} (o : Option A) → is_some o ≡ false → o ≡ None
nothing None e = refl
nothing (Some x) e = absurd cc

pub returns : goal.returns
returns c =
    let id = c.args.id.now in
    let none : get_by (bytes_eq id) c.args.self.now.lists ≡ None = nothing _ (sym c.contains_key.ensures ∙ c.if-contains_key.false) in
    same-new c.args.self.now _ id c.no_places.result none c.in_ok-insert.ensures.updates.0 refl c.no_places.ensures
