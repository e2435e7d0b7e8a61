use Rattle.std.proofs.Common.{◌∙◌, ap, sym}
use Rattle.std.specs.Prelude.{slice_get}
use Rattle.txn_meta.specs.Places.{members}
use Rattle.basil_types.specs.Shown.{transaction_of}
use Rattle.certificates.proofs.ShardLaws.{some_first}
use Rattle.certificates.proofs.shards.least_involved.Goals as goal

pub unreachable-requires : goal.unreachable-requires
unreachable-requires c =
    some_first c.args.cluster.now (transaction_of c.args.t) c.n.ensures.in_range c.requires
    (ap (λ marks. slice_get (members marks) 0) (sym c.involved.ensures) ∙ sym c.nth.ensures ∙ c.in-None.is)
