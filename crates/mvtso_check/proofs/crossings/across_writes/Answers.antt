use Rattle.std.proofs.Common.{sym, ap, ◌∙◌, arith, option_map}
use Rattle.basil_types.specs.Shown.{transaction_of, write_of}
use Rattle.mvtso_check.specs.Crossings.{is_write_under}
use Rattle.mvtso_check.proofs.SearchLaws.{goes_on, ends, ends_short}
use Rattle.mvtso_check.proofs.crossings.across_writes.Goals as goal

pub returns-in_default : goal.returns-in_default
returns-in_default c held noted s =
    ends (λ h. is_write_under c.args.home.now (transaction_of c.args.t) h.transaction)
    (transaction_of c.args.t).writes held c.loop-place.place c.loop-place.found _
    (sym c.write_at.ensures ∙ ap (option_map write_of) c.in_default.is) (c.loop-place.invariant held noted s)

pub loop-place-preserved : goal.loop-place-preserved
loop-place-preserved c held noted s =
    goes_on (λ h. is_write_under c.args.home.now (transaction_of c.args.t) h.transaction) (transaction_of c.args.t).writes
    held c.loop-place.place (write_of c.in-Some.item) c.loop-place.found c.join-found.result c.across_write-hits.result _
    (sym c.in-Some.ensures) c.join-found.ensures (c.across_write-hits.ensures held noted s) (c.loop-place.invariant held noted s)

pub returns : goal.returns
returns c held noted s =
    ends_short (λ h. is_write_under c.args.home.now (transaction_of c.args.t) h.transaction) (transaction_of c.args.t).writes held
    c.loop-place.place c.loop-place.found _ (omega (arith, c.bytes.ensures.in_range.few_writes)) (c.loop-place.invariant held noted s)
