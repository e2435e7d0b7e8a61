use Rattle.std.proofs.Common.{◌∙◌, sym, ap, subst}
use Rattle.cluster_world.specs.EventValues.{event_value}
use Rattle.delivery_laws.specs.Deliveries.{takes}
use Rattle.journaled_runs.specs.Stopping.{HasStopped}
use Rattle.journaled_runs.proofs.StopLaws.{behind_quiet, behind_refused, behind_stopped}
use Rattle.journaled_runs.proofs.stopping.stop_behind.Goals as goal

pub returns-in-Err-clause-comes : goal.returns-in-Err-clause-comes
returns-in-Err-clause-comes g c = λ s x shows keeps hands room.
    behind_refused g.K.Keys.Verifier g.K.Pen.Signer s (g.K.Kit.value c.args.world.now.kit) x (event_value c.args.event) c.args.stop
    room c.requires.keeps c.step.new.self.core c.args.journals.now keeps c.in-Err.fault (c.in-Err.ensures.happens s x.state shows)

pub returns-then-branch-clause-comes : goal.returns-then-branch-clause-comes
returns-then-branch-clause-comes g c = λ s x shows keeps hands room.
    let e = event_value c.args.event in
    let js = c.stop_journal.new.journals in
    let comes = c.in-Ok.ensures.happens s x.state shows in
    behind_stopped g.K.Keys.Verifier g.K.Pen.Signer s (g.K.Kit.value c.args.world.now.kit) x e c.args.stop room c.requires.keeps
    c.books_follow_deliveries.ensures c.step.new.self.core c.lose_since.new.world.core c.args.journals.now js keeps
    (subst (HasStopped s (takes s x.state e) c.args.stop x.journals js) c.if-branch.true
    (c.in_ok-stop_journal.ensures s x e (keeps.kit_is ∙ ap g.K.Kit.value (sym (c.kit.ensures ∙ c.in-Ok.ensures.kit))) keeps.holds
    hands room))
    c.messages-before.result (c.messages-before.ensures s x.state shows) comes c.lose_since.result
    (c.lose_since.ensures.lost s comes.0 comes.2)

pub returns-else-branch-clause-comes : goal.returns-else-branch-clause-comes
returns-else-branch-clause-comes g c = λ s x shows keeps hands room.
    let e = event_value c.args.event in
    let js = c.stop_journal.new.journals in
    behind_quiet g.K.Keys.Verifier g.K.Pen.Signer s (g.K.Kit.value c.args.world.now.kit) x e c.args.stop room c.requires.keeps
    c.books_follow_deliveries.ensures c.step.new.self.core c.args.journals.now js keeps
    (subst (HasStopped s (takes s x.state e) c.args.stop x.journals js) c.if-branch.false
    (c.in_ok-stop_journal.ensures s x e (keeps.kit_is ∙ ap g.K.Kit.value (sym (c.kit.ensures ∙ c.in-Ok.ensures.kit))) keeps.holds
    hands room))
    (c.in-Ok.ensures.happens s x.state shows)
