use Rattle.std.proofs.Common.{sym, ap, ◌∙◌}
use Rattle.basil_types.specs.Id.{id_of}
use Rattle.basil_types.specs.Transaction.{id}
use Rattle.txn_table.specs.Tables.{place_of}
use Rattle.replica_rows.proofs.verdicts.Book.enter.Goals as goal

pub insert-place-requires-clause-arrives : goal.insert-place-requires-clause-arrives
insert-place-requires-clause-arrives c =
    ap (place_of c.make_room-2.new.self.entries)
    (ap id (c.in_ok-copy.ensures ∙ sym c.view-3.ensures.value) ∙ ap id_of (sym c.bytes.ensures.spelled) ∙ sym c.id_of-id.ensures)
    ∙ sym c.place_of.ensures.place ∙ c.in-None.is
