use Rattle.std.proofs.Common.{◌≡◌, sym, ap, ◌∙◌}
use Rattle.basil_types.specs.Id as digest
use Rattle.basil_types.specs.Transaction as transactions
use Rattle.txn_table.specs.Tables.{place_of}
use Rattle.replica_rows.proofs.making.arrive.Goals as goal

pub insert-requires-clause-arrives : goal.insert-requires-clause-arrives
insert-requires-clause-arrives c =
    let id : c.id_of-id.result ≡ transactions.id c.in_ok-copy.copy =
    c.id_of-id.ensures ∙ ap digest.id_of (c.bytes.ensures.spelled ∙ ap transactions.canonical c.view-2.ensures.value) in
    ap (place_of c.make_room.new.self.entries) (sym id) ∙ sym c.place_of.ensures.place ∙ c.in-None.is
