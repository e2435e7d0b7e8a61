use Rattle.std.proofs.Common.{ap, ◌∙◌}
use Rattle.basil_types.specs.Transaction as transactions
use Rattle.basil_types.specs.Transaction.{TransactionValue}
use Rattle.txn_table.proofs.entry.Entry.id.Goals as goal

pub returns : goal.returns
returns c = c.id.ensures ∙ ap (λ (t : TransactionValue). transactions.id t) c.view.ensures
