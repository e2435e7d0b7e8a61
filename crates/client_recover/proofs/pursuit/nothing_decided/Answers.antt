use Rattle.std.proofs.Common.{sym, ap, ◌∙◌}
use Rattle.txn_meta.specs.Places.{involves}
use Rattle.client_recover.proofs.MarkLaws.{nothing_yet}
use Rattle.client_recover.proofs.pursuit.nothing_decided.Goals as goal

pub returns : goal.returns
returns c =
    nothing_yet c.args.cluster.now c.args.t.now c.log_shard.result c.n.ensures.in_range.few c.log_shard.ensures.in_range
    (ap (λ t. involves c.args.cluster.now t c.log_shard.result) (sym c.view.ensures.value) ∙ c.log_shard.ensures.involved)
