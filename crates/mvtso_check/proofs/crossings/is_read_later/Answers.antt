use Rattle.std.proofs.Common.{sym, ap, ◌∙◌, arith, option_map}
use Rattle.basil_types.specs.Shown.{transaction_of, write_of}
use Rattle.basil_types.proofs.Walks.{any_met, any_passed, any_past, any_short}
use Rattle.mvtso_check.proofs.crossings.is_read_later.Goals as goal

pub returns-in_default : goal.returns-in_default
returns-in_default c held noted s =
    sym (c.loop-place.invariant held noted s
    ∙ any_past _ (transaction_of c.args.t).writes c.loop-place.place (sym c.write_at.ensures
    ∙ ap (option_map write_of) c.in_default.is))

pub returns-then-is_noted_above : goal.returns-then-is_noted_above
returns-then-is_noted_above c held noted s =
    sym (c.loop-place.invariant held noted s
    ∙ any_met _ (transaction_of c.args.t).writes c.loop-place.place
    (write_of c.in-Some.item) (sym c.in-Some.ensures) (sym (c.is_noted_above.ensures held noted s) ∙ c.if-is_noted_above.true))

pub loop-place-preserved : goal.loop-place-preserved
loop-place-preserved c held noted s =
    c.loop-place.invariant held noted s
    ∙ any_passed _ (transaction_of c.args.t).writes c.loop-place.place
    (write_of c.in-Some.item) (sym c.in-Some.ensures) (sym (c.is_noted_above.ensures held noted s) ∙ c.if-is_noted_above.false)

pub returns : goal.returns
returns c held noted s = sym (c.loop-place.invariant held noted s
    ∙ any_short _ (transaction_of c.args.t).writes c.loop-place.place (omega (arith, c.bytes.ensures.in_range.few_writes)))
