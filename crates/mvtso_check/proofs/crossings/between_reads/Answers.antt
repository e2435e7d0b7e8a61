use Rattle.std.proofs.Common.{sym, ap, ◌∙◌, arith, option_map}
use Rattle.basil_types.specs.Shown.{transaction_of, read_of}
use Rattle.txn_meta.specs.Conflicts.{crosses_in}
use Rattle.mvtso_check.proofs.SearchLaws.{goes_on, ends, ends_short}
use Rattle.mvtso_check.proofs.crossings.between_reads.Goals as goal

pub returns-in_default : goal.returns-in_default
returns-in_default c held noted s =
    ends (λ h. crosses_in c.args.home.now.cluster c.args.home.now.shard h.transaction (transaction_of c.args.t))
    (transaction_of c.args.t).reads held c.loop-place.place c.loop-place.found _
    (sym c.read_at.ensures ∙ ap (option_map read_of) c.in_default.is) (c.loop-place.invariant held noted s)

pub loop-place-preserved : goal.loop-place-preserved
loop-place-preserved c held noted s =
    goes_on (λ h. crosses_in c.args.home.now.cluster c.args.home.now.shard h.transaction (transaction_of c.args.t)) (transaction_of
    c.args.t).reads held c.loop-place.place (read_of c.in-Some.item) c.loop-place.found c.join-found.result c.between_read-hits.result _
    (sym c.in-Some.ensures) c.join-found.ensures (c.between_read-hits.ensures held noted s) (c.loop-place.invariant held noted s)

pub returns : goal.returns
returns c held noted s =
    ends_short (λ h. crosses_in c.args.home.now.cluster c.args.home.now.shard h.transaction (transaction_of c.args.t))
    (transaction_of c.args.t).reads held c.loop-place.place c.loop-place.found _
    (omega (arith, c.bytes.ensures.in_range.few_reads)) (c.loop-place.invariant held noted s)
