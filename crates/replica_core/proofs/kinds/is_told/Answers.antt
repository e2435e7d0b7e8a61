use Rattle.std.proofs.Common.{◌≡◌, Bool, true, List, ℕ, ◌&&◌, sym, ap, ◌∙◌}
use Rattle.std.specs.Prelude.{is_some}
use Rattle.basil_types.specs.Shown.{transaction_of}
use Rattle.basil_types.specs.Transaction.{TransactionValue, id}
use Rattle.replica_core.specs.Known.{known_of, logged_with}
use Rattle.replica_core.specs.Logs.{logged_as}
use Rattle.replica_core.specs.Seats.{self_at}
use Rattle.replica_core.specs.SecondStage.{logs_here}
use Rattle.replica_core.proofs.Recovering.{mapped_some}
use Rattle.replica_core.proofs.kinds.is_told.Goals as goal

pub returns-then-is_some-clause-tells : goal.returns-then-is_some-clause-tells
returns-then-is_some-clause-tells c accepts signing book =
    let me = self_at c.args.seat.now accepts signing in
    let t = transaction_of c.args.t in
    let parts = c.args.parts.now in
    let here = logs_here me (known_of parts.known.table.entries t) in
    let there : is_some (logged_with parts.logged.entries (id t)) ≡ true =
    ap (λ (x : List ℕ). is_some (logged_with parts.logged.entries x)) (sym c.requires)
    ∙ sym (ap is_some c.find.ensures) ∙ mapped_some (λ l. logged_as c.args.id.now l.now) c.find.result
    ∙ sym c.is_some.ensures ∙ c.if-is_some.true in
    c.logs_any.ensures accepts signing ∙ ap (λ (u : TransactionValue). logs_here me u) c.known_text.ensures.text
    ∙ sym (ap (λ (b : Bool). b && here) there)
