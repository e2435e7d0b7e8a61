use Rattle.std.proofs.Common.{sym, ap, ◌∙◌}
use Rattle.basil_types.specs.Shown.{transaction_of}
use Rattle.mvtso_check.specs.Verdict as rules
use Rattle.txn_table.specs.Shown.{entry_of}
use Rattle.txn_table.specs.Tables.{place_of}
use Rattle.replica_core.proofs.Places.{known_at, known_new}
use Rattle.replica_core.proofs.first.verdict_on.Goals as goal

pub returns-in-Some-clause-verdict : goal.returns-in-Some-clause-verdict
returns-in-Some-clause-verdict c noted s =
    let es = c.args.known.now.table.entries in
    let t = transaction_of c.args.t in
    let named = c.id-id.ensures in
    let at = sym (ap (place_of es) named) ∙ sym c.place_of.ensures.place ∙ c.in-Some.is in
    c.verdict_of.ensures.verdict noted s
    ∙ ap (rules.verdict c.args.seat.now.home c.args.now (record { entries = es; noted = noted })) (c.view.ensures
    ∙ sym (known_at es t c.in-Some.place (entry_of c.entry.result.now) at c.entry.ensures.entry))

pub returns-in-None-clause-verdict : goal.returns-in-None-clause-verdict
returns-in-None-clause-verdict c noted s =
    let es = c.args.known.now.table.entries in
    let t = transaction_of c.args.t in
    let named = c.id-id.ensures in
    let none = sym (ap (place_of es) named) ∙ sym c.place_of.ensures.place ∙ c.in-None.is in
    c.verdict_of-in-None.ensures.verdict noted s
    ∙ ap (rules.verdict c.args.seat.now.home c.args.now (record { entries = es; noted = noted })) (sym (known_new es t none))
