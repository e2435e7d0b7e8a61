use Rattle.std.proofs.Common.{List, Option, ap, ◌∙◌, ℕ}
use Rattle.txn_table.specs.Tables.{TableValue}
use Rattle.replica_core.specs.Holding.{arrived_in}
use Rattle.replica_core.specs.Known.{put_logged}
use Rattle.replica_core.specs.LogWorks.{log_book_of, said_told, with_log}
use Rattle.replica_core.specs.Replicas.{LoggedEntry, BookValue}
use Rattle.replica_core.specs.Telling.{Told, told_with}
use Rattle.replica_core.proofs.logging.LogWork.perform.Goals as goal

pub returns-clause-told : goal.returns-clause-told
returns-clause-told g c book =
    let known = c.args.known.now in
    let logged = c.args.logged.now in
    let signing = g.S.Signer.fixed c.args.pen.now in
    let before : BookValue = record book { entries = known.table.entries; logged = logged.entries } in
    let t : Told = told_with
    (log_book_of book known logged (g.S.Signer.spent c.args.pen.now) (g.S.Signer.left_of c.args.pen.now)) c.args.out.now in
    let w = c.args.self in
    let said : Told = said_told signing t w.said in
    let put : Option (List ℕ) → List LoggedEntry =
    λ r. let l : LoggedEntry = record { id = w.id; cell = w.cell; reply = r; askers = w.askers.items } in put_logged l logged.entries in
    ap (λ t. with_log t c.arrive.new.self.table.entries c.put.new.self.entries) (c.say-reply.ensures.told before)
    ∙ ap (λ es. with_log said es c.put.new.self.entries) (ap (λ (t : TableValue). t.entries) c.arrive.ensures.table)
    ∙ ap (with_log said (arrived_in known.table.entries w.arrives)) (c.put.ensures ∙ ap put (c.say-reply.ensures.reply before))
