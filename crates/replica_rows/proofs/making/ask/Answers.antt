use Rattle.std.proofs.Common.{◌≡◌, Some, sym, ap, ◌∙◌}
use Rattle.basil_types.specs.Id as digest
use Rattle.basil_types.specs.Shown.{transaction_of}
use Rattle.basil_types.specs.Transaction as transactions
use Rattle.basil_types.specs.Transaction.{TransactionValue}
use Rattle.txn_table.specs.Tables.{TableValue}
use Rattle.replica_rows.proofs.making.ask.Goals as goal

pub wait-requires-clause-room : goal.wait-requires-clause-room
wait-requires-clause-room c =
    let id : c.id_of-id.result ≡ transactions.id (transaction_of c.view-2.result) =
    c.id_of-id.ensures ∙ ap digest.id_of c.bytes.ensures.spelled in
    ap (λ (t : TableValue). t.room) c.in_ok-make_room.ensures.made
    ∙ ap (λ (t : TransactionValue). Some (transactions.id t)) (c.view.ensures.value ∙ sym c.view-2.ensures.value)
    ∙ ap Some (sym id) ∙ sym (c.place_of.ensures.found c.in-Some.place c.in-Some.is)
