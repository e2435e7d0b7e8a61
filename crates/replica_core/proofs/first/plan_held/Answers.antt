use Rattle.std.proofs.Common.{◌≡◌, ℕ, List, [], ◌∷◌, Some, sym, ap, subst, ◌∙◌}
use Rattle.std.specs.Prelude.{slice_get, Ok}
use Rattle.std.specs.Option.{option_and_then}
use Rattle.basil_types.specs.Shown.{transaction_of}
use Rattle.basil_types.specs.Transaction.{TransactionValue, id}
use Rattle.frame_views.specs.Stored.{spells_certificate}
use Rattle.node_steps.specs.Pens.{pen_value}
use Rattle.txn_table.specs.Entries.{EntryValue}
use Rattle.txn_table.specs.Shown.{entry_of}
use Rattle.txn_table.specs.Tables.{entry_with}
use Rattle.replica_core.specs.FirstStage.{answer_known, by_vote, first_vote, wait_done, vote_to, vote_value}
use Rattle.replica_core.specs.Whole.{is_signature}
use Rattle.replica_core.specs.KnownWorks.{perform_known}
use Rattle.replica_core.specs.Replicas.{Done}
use Rattle.replica_core.specs.Seats.{self_at, book_with}
use Rattle.replica_core.specs.Telling.{IsPlanned}
use Rattle.replica_core.proofs.Places.{known_at}
use Rattle.replica_core.proofs.Planning.{if_ok_at}
use Rattle.replica_core.proofs.first.plan_held.Goals as goal

pub plan_again-requires-clause-signature : goal.plan_again-requires-clause-signature
plan_again-requires-clause-signature g c =
    (c.stored_ones_stay.ensures is_signature spells_certificate).signed c.args.known.now.table.entries c.args.place
    (entry_of c.entry.result.now) c.in-Voted.vote c.in-Voted.signature.now c.in-Voted.proof c.args.known.now.whole
    c.entry.ensures.entry c.in-Voted.ensures

pub returns-in-Unvoted-clause-answer : goal.returns-in-Unvoted-clause-answer
returns-in-Unvoted-clause-answer g c accepts book s =
    let es = c.args.known.now.table.entries in
    let t = transaction_of c.args.t in
    let e = entry_of c.entry.result.now in
    let sg = g.S.Signer.fixed c.args.pen.now in
    let b = book_with book es (pen_value (g.S.Signer.spent c.args.pen.now) (g.S.Signer.left_of c.args.pen.now)) in
    let me = self_at c.args.seat.now accepts sg in
    let is : entry_with es (id t) ≡ Some e = ap (option_and_then (slice_get es)) c.requires.place ∙ c.entry.ensures.entry in
    let equal = ap (answer_known me c.args.now c.args.from b t) is
    ∙ ap (by_vote me c.args.now c.args.from b e.transaction) c.in-Unvoted.ensures
    ∙ ap (first_vote me c.args.now c.args.from b) (sym (known_at es t c.args.place e c.requires.place c.entry.ensures.entry)) in
    subst (IsPlanned (perform_known sg) b c.plan_first_vote.result) (sym equal) (c.plan_first_vote.ensures.answer accepts book s)

pub returns-in-Waiting-clause-answer : goal.returns-in-Waiting-clause-answer
returns-in-Waiting-clause-answer g c accepts book s =
    let es = c.args.known.now.table.entries in
    let t = transaction_of c.args.t in
    let e = entry_of c.entry.result.now in
    let sg = g.S.Signer.fixed c.args.pen.now in
    let b = book_with book es (pen_value (g.S.Signer.spent c.args.pen.now) (g.S.Signer.left_of c.args.pen.now)) in
    let me = self_at c.args.seat.now accepts sg in
    let is : entry_with es (id t) ≡ Some e = ap (option_and_then (slice_get es)) c.requires.place ∙ c.entry.ensures.entry in
    let equal = ap (answer_known me c.args.now c.args.from b t) is
    ∙ ap (by_vote me c.args.now c.args.from b e.transaction) c.in-Waiting.ensures
    ∙ ap (λ (u : TransactionValue). Ok (wait_done c.args.from b u))
    (sym (known_at es t c.args.place e c.requires.place c.entry.ensures.entry)) in
    subst (IsPlanned (perform_known sg) b c.plan_wait.result) (sym equal) (c.plan_wait.ensures.answer accepts book s)

pub returns-in-Voted-clause-answer : goal.returns-in-Voted-clause-answer
returns-in-Voted-clause-answer g c accepts book s =
    let es = c.args.known.now.table.entries in
    let t = transaction_of c.args.t in
    let e = entry_of c.entry.result.now in
    let f = entry_of c.entry-in-Voted.result.now in
    let sg = g.S.Signer.fixed c.args.pen.now in
    let pen = pen_value (g.S.Signer.spent c.args.pen.now) (g.S.Signer.left_of c.args.pen.now) in
    let b = book_with book es pen in
    let me = self_at c.args.seat.now accepts sg in
    let is : entry_with es (id t) ≡ Some e = ap (option_and_then (slice_get es)) c.requires.place ∙ c.entry.ensures.entry in
    let both = sym c.entry-in-Voted.ensures.entry ∙ c.entry.ensures.entry in
    let same : f ≡ e = cc in
    let named : c.id-id.result ≡ id e.transaction = c.id-id.ensures ∙ ap id c.view.ensures
    ∙ ap (λ (x : EntryValue). id x.transaction) same in
    let equal = ap (answer_known me c.args.now c.args.from b t) is
    ∙ ap (by_vote me c.args.now c.args.from b e.transaction) c.in-Voted.ensures
    ∙ ap (λ (x : List ℕ). let d : Done = record {
      book = b;
      signed = [];
      sent = vote_to c.args.from (vote_value me es x c.in-Voted.vote c.in-Voted.proof c.in-Voted.signature.now) ∷ [];
    } in
    Ok d) (sym named) in
    subst (IsPlanned (perform_known sg) b c.plan_again.result) (sym equal) (c.plan_again.ensures.answer sg pen accepts book s)

pub returns-in-Voted-clause-ready : goal.returns-in-Voted-clause-ready
returns-in-Voted-clause-ready g c = if_ok_at (g.S.Signer.fixed c.args.pen.now).size (g.S.Signer.left_of c.args.pen.now) c.args.known.now
    c.plan_again.result c.plan_again.ensures.ready
