use Rattle.std.proofs.Common.{List, sym, ap, ◌∙◌}
use Rattle.basil_types.specs.Shown.{transaction_of}
use Rattle.txn_table.specs.Entries.{EntryValue}
use Rattle.replica_core.specs.Holding.{arrived_in}
use Rattle.replica_core.specs.Known.{known_of}
use Rattle.replica_core.specs.Seats.{book_of}
use Rattle.replica_core.proofs.KnownTexts.{known_named, known_arrives}
use Rattle.replica_core.proofs.election.plan_new.Goals as goal

pub returns-clause-answer : goal.returns-clause-answer
returns-clause-answer g c accepts book m l celled asks =
    let es = c.args.known.now.table.entries in
    let t = transaction_of c.args.t in
    let law = c.ids_tell_places.ensures in
    c.plan_told.ensures.answer accepts (book_of book c.args.known.now (g.S.Signer.spent c.args.pen.now) (g.S.Signer.left_of c.args.pen.now))
    (known_of es t) m l
    (sym
    (known_arrives law es t ∙ c.in_ok-arrives.ensures.with_it
    ∙ ap (λ (l : List EntryValue). arrived_in l c.in_ok-arrives.arrives) c.newcomer.ensures.entries))
    (known_named law es t ∙ sym c.requires) celled asks
