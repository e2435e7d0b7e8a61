use Rattle.std.proofs.Common.{Err, drop, arith, sym, ap, ◌∙◌}
use Rattle.basil_types.specs.Parsed.{transaction_at}
use Rattle.basil_types.specs.Shown.{transaction_of}
use Rattle.basil_types.proofs.Fields.{IsBytes-drop}
use Rattle.basil_types.proofs.PlacedLaws.{is_found, only_is, placed_ok, placed_err}
use Rattle.basil_types.proofs.transaction.view.TransactionView.read.Goals as goal

pub returns-in-Ok-clause-found : goal.returns-in-Ok-clause-found
returns-in-Ok-clause-found c =
    is_found (drop c.args.at c.args.bytes.now) (transaction_of c.in-Ok.view, c.in-Ok._rest.now)
    (IsBytes-drop c.args.at c.args.bytes.now (λ i. omega (arith, c.type_inv.bytes i)))
    (ap transaction_at (sym c.behind.ensures) ∙ c.in-Ok.ensures)

pub returns-in-Ok-clause-only : goal.returns-in-Ok-clause-only
returns-in-Ok-clause-only c = λ t begins.
    sym (only_is c.args.at c.args.bytes.now t begins) ∙ placed_ok c.args.at c.args.bytes.now
    (transaction_of c.in-Ok.view, c.in-Ok._rest.now) (ap transaction_at (sym c.behind.ensures) ∙ c.in-Ok.ensures)

pub returns-in-Ok-clause-exact : goal.returns-in-Ok-clause-exact
returns-in-Ok-clause-exact c =
    placed_ok c.args.at c.args.bytes.now (transaction_of c.in-Ok.view, c.in-Ok._rest.now)
    (ap transaction_at (sym c.behind.ensures) ∙ c.in-Ok.ensures)

pub returns-in-Err-clause-only : goal.returns-in-Err-clause-only
returns-in-Err-clause-only c = λ t begins.
    sym (only_is c.args.at c.args.bytes.now t begins) ∙ placed_err c.args.at c.args.bytes.now c.in-Err.fault
    (ap transaction_at (sym c.behind.ensures) ∙ c.in-Err.ensures) ∙ ap (λ f. Err f) (sym c.place.ensures)

pub returns-in-Err-clause-exact : goal.returns-in-Err-clause-exact
returns-in-Err-clause-exact c =
    placed_err c.args.at c.args.bytes.now c.in-Err.fault (ap transaction_at (sym c.behind.ensures) ∙ c.in-Err.ensures) ∙ ap (λ f. Err f)
    (sym c.place.ensures)
