use Rattle.std.proofs.Common.{◌<◌, length, ap, subst}
use Rattle.txn_table.specs.Tables.{TableValue}
use Rattle.txn_table.proofs.Keeping.{proof-at}
use Rattle.txn_table.proofs.table.Table.entry.Goals as goal

pub returns-clause-proof : goal.returns-clause-proof
returns-clause-proof c at is =
    subst (λ es. at < length es) (ap (λ (t : TableValue). t.entries) c.self.view_is)
    (proof-at c.self.inside.entries c.self.inside.askers
    c.self.inside.room c.args.place c.index.result.now c.index.ensures c.self.invariant at is)
