use Rattle.std.proofs.Common.{sym, ap, ◌∙◌, arith, option_map}
use Rattle.basil_types.specs.Shown.{transaction_of, read_of}
use Rattle.basil_types.proofs.Walks.{any_met, any_passed, any_past, any_short}
use Rattle.mvtso_check.proofs.dependencies.has_broken.Goals as goal

pub returns-in_default : goal.returns-in_default
returns-in_default c =
    sym (c.loop-place.invariant ∙ any_past _ (transaction_of c.args.t).reads c.loop-place.place (sym c.read_at.ensures
    ∙ ap (option_map read_of) c.in_default.is))

pub returns-then-is_broken_dependency : goal.returns-then-is_broken_dependency
returns-then-is_broken_dependency c =
    sym (c.loop-place.invariant
    ∙ any_met _ (transaction_of c.args.t).reads c.loop-place.place
    (read_of c.in-Some.item) (sym c.in-Some.ensures) (sym c.is_broken_dependency.ensures ∙ c.if-is_broken_dependency.true))

pub loop-place-preserved : goal.loop-place-preserved
loop-place-preserved c =
    c.loop-place.invariant
    ∙ any_passed _ (transaction_of c.args.t).reads c.loop-place.place
    (read_of c.in-Some.item) (sym c.in-Some.ensures) (sym c.is_broken_dependency.ensures ∙ c.if-is_broken_dependency.false)

pub returns : goal.returns
returns c = sym (c.loop-place.invariant
    ∙ any_short _ (transaction_of c.args.t).reads c.loop-place.place (omega (arith, c.bytes.ensures.in_range.few_reads)))
