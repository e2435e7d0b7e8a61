use Rattle.std.proofs.Common.{◌∙◌, ap, sym, cond, Bool, None, Some}
use Rattle.txn_meta.specs.Places.{is_marked}
use Rattle.basil_types.specs.Shown.{transaction_of}
use Rattle.certificates.specs.declared.refusal.CertRefusal.TheVariants.{NotInvolved}
use Rattle.certificates.proofs.ShardLaws.{marked_as_involved}
use Rattle.certificates.proofs.shards.one_involved.Goals as goal

pub returns-else-has : goal.returns-else-has
returns-else-has c =
    ap (λ (b : Bool). cond b None (Some (NotInvolved c.args.shard)))
    (sym (marked_as_involved c.args.cluster.now (transaction_of c.args.t) c.args.shard c.n.ensures.in_range)
    ∙ ap (λ marks. is_marked marks c.args.shard) (sym c.involved.ensures) ∙ sym c.has.ensures ∙ c.if-has.false)
