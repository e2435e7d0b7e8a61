use Rattle.std.proofs.Common.{ℕ, ◌==◌, sym, ap, ◌∙◌}
use Rattle.basil_types.specs.Shown.{transaction_of}
use Rattle.replica_core.proofs.Recovering.{empty_logs}
use Rattle.replica_core.proofs.kinds.logs_any.Goals as goal

pub returns-then-is_empty : goal.returns-then-is_empty
returns-then-is_empty c accepts signing =
    let home = c.args.seat.now.home in
    sym (ap (λ (n : ℕ). n == home.shard) (empty_logs home.cluster (transaction_of c.args.t) (sym c.is_empty.ensures ∙ c.if-is_empty.true)))
