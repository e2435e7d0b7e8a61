use Rattle.std.proofs.Common.{◌∙◌, sym, ap, subst}
use Rattle.cluster_world.specs.EventValues.{event_value}
use Rattle.delivery_laws.specs.Deliveries.{takes}
use Rattle.journaled_runs.specs.Stopping.{HasStopped}
use Rattle.journaled_runs.proofs.StopLaws.{before_refused, before_stopped}
use Rattle.journaled_runs.proofs.stopping.stop_before.Goals as goal

pub returns-then-branch-clause-comes : goal.returns-then-branch-clause-comes
returns-then-branch-clause-comes g c = λ s x shows keeps hands room.
    let e = event_value c.args.event in
    let js = c.stop_journal.new.journals in
    before_stopped g.K.Keys.Verifier g.K.Pen.Signer s (g.K.Kit.value c.args.world.now.kit) x e c.args.stop room c.requires.keeps
    c.args.world.now.core c.args.journals.now js shows keeps
    (subst (HasStopped s (takes s x.state e) c.args.stop x.journals js) c.if-branch.true
    (c.in_ok-stop_journal.ensures s x e (keeps.kit_is ∙ ap g.K.Kit.value (sym c.kit.ensures)) keeps.holds hands room))

pub returns-else-branch-clause-comes : goal.returns-else-branch-clause-comes
returns-else-branch-clause-comes g c = λ s x shows keeps hands room.
    let e = event_value c.args.event in
    let js = c.stop_journal.new.journals in
    before_refused g.K.Keys.Verifier g.K.Pen.Signer s (g.K.Kit.value c.args.world.now.kit) x e c.args.stop room
    c.books_follow_deliveries.ensures c.step.new.self.core c.args.journals.now js keeps
    (subst (HasStopped s (takes s x.state e) c.args.stop x.journals js) c.if-branch.false
    (c.in_ok-stop_journal.ensures s x e (keeps.kit_is ∙ ap g.K.Kit.value (sym c.kit.ensures)) keeps.holds hands room))
    c.step.result (c.step.ensures.happens s x.state shows)
