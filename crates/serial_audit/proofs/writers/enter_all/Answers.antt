use Rattle.std.proofs.Common.{true, [], take, subst, sym, ap, ◌∙◌}
use Rattle.mv_store.specs.Held.{NoOther, entered}
use Rattle.mv_store.specs.Store.{Stands}
use Rattle.serial_audit.specs.Parts.{all_told, lent}
use Rattle.serial_audit.proofs.Entering.{none_other, lent_under, entered_next}
use Rattle.serial_audit.proofs.writers.enter_all.Goals as goal

pub loop-t-preserved : goal.loop-t-preserved
loop-t-preserved c =
    let us = take c.loop-t.t-index (lent c.args.ordered.now) in
    let t = c.t-item.result in
    let is = sym c.view-view.ensures.value in
    subst (λ held. Stands c.set.new.self held [])
    (ap (λ x. entered (all_told us) x 0 true) (sym is)
    ∙ entered_next c.args.ordered.now c.requires c.loop-t.t-index t c.loop-t-test.true c.t-item.is)
    (c.set.ensures.entered (all_told us) [] (c.make_room.ensures.as_before (all_told us) [] c.loop-t.invariant)
    (subst (NoOther (all_told us)) is
    (none_other us t.now (lent_under c.args.ordered.now c.requires c.loop-t.t-index t c.loop-t-test.true c.t-item.is))))
