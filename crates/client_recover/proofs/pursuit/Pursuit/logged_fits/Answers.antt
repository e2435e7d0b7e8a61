use Rattle.std.proofs.Common.{ℕ, List, length, sym, ap, ◌∙◌}
use Rattle.txn_meta.specs.Places.{log_shard}
use Rattle.client_recover.proofs.FitLaws.{small_number, low_shard, quorum_fits}
use Rattle.client_recover.proofs.pursuit.Pursuit.logged_fits.Goals as goal

pub returns : goal.returns
returns c =
    let u = c.args.self.now in
    let low = low_shard c.log_shard.result (log_shard u.cluster u.transaction) u.cluster.shards
    c.log_shard.ensures.value c.log_shard.ensures.in_range c.n.ensures.in_range.few in
    quorum_fits u.cluster c.n.ensures.in_range u.transaction u.logs u.logs_sound c.args.decision c.args.decided
    (small_number c.args.decided c.ranges.decided) low
    (sym (ap (λ (i : List ℕ). length i) u.named) ∙ c.id_fits.ensures)
