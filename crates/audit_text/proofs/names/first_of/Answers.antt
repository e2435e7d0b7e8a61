use Rattle.std.proofs.Common.{sym, ap, ◌∙◌}
use Rattle.std.specs.Prelude.{option_map}
use Rattle.audit_text.proofs.NameLaws.{met, passed}
use Rattle.audit_text.proofs.names.first_of.Goals as goal

pub returns-then-is_same : goal.returns-then-is_same
returns-then-is_same c =
    sym (ap (option_map (λ e. e.0)) (c.loop-place.invariant
    ∙ met c.args.version.now c.args.versions.now.entries c.loop-place.place (c.in_ok-name.name.now, c.in_ok-name.v.now)
    (sym c.in_ok-name.ensures.entry) (sym c.is_same.ensures ∙ c.if-is_same.true)))

pub loop-place-preserved : goal.loop-place-preserved
loop-place-preserved c =
    c.loop-place.invariant
    ∙ passed c.args.version.now c.args.versions.now.entries c.loop-place.place (c.in_ok-name.name.now, c.in_ok-name.v.now)
    (sym c.in_ok-name.ensures.entry) (sym c.is_same.ensures ∙ c.if-is_same.false)
