use Rattle.basil_types.specs.Steps.{◌>>=◌}
use Rattle.cluster_run.specs.Events.{happens}
use Rattle.cluster_world.specs.EventValues.{event_value}
use Rattle.delivery_laws.specs.Deliveries.{takes}
use Rattle.journaled_runs.specs.Journaling.{with_state}
use Rattle.journaled_runs.proofs.StepLaws.{comes_full, comes_not, comes_on, comes_quiet}
use Rattle.journaled_runs.proofs.stepping.step.Goals as goal

pub returns-in-None-clause-comes : goal.returns-in-None-clause-comes
returns-in-None-clause-comes g c = λ s x shows keeps.
    comes_quiet g.K.Keys.Verifier g.K.Pen.Signer s (g.K.Kit.value c.args.world.now.kit) x (event_value c.args.event)
    c.step.new.self.core c.books_follow_deliveries.ensures c.args.journals.now (c.in-None.ensures s x shows keeps) keeps
    c.step.result (c.step.ensures.happens s x.state shows)

pub returns-in-Err-clause-comes : goal.returns-in-Err-clause-comes
returns-in-Err-clause-comes g c = λ s x shows keeps.
    let e = event_value c.args.event in
    let kit = g.K.Kit.value c.args.world.now.kit in
    comes_full g.K.Keys.Verifier g.K.Pen.Signer s kit x e c.args.world.now.core c.find_room.new.journals
    (happens s e x.state >>= with_state (takes s x.state e) x.journals) c.in-Err.fault
    (c.in-Err.ensures s kit x e keeps (c.in-Some.ensures s x shows keeps)) shows

pub returns-in-Err-step-clause-comes : goal.returns-in-Err-step-clause-comes
returns-in-Err-step-clause-comes g c = λ s x shows keeps.
    let e = event_value c.args.event in
    let kit = g.K.Kit.value c.args.world.now.kit in
    let room = c.in-Ok.ensures s kit x e keeps (c.in-Some.ensures s x shows keeps) in
    comes_not g.K.Keys.Verifier g.K.Pen.Signer s kit x e c.step-2.new.self.core c.find_room.new.journals room.0
    c.in-Err-step.fault (c.in-Err-step.ensures.happens s x.state shows) room.1

pub returns-clause-comes : goal.returns-clause-comes
returns-clause-comes g c = λ s x shows keeps.
    let e = event_value c.args.event in
    let kit = g.K.Kit.value c.args.world.now.kit in
    let hands = c.in-Some.ensures s x shows keeps in
    let room = c.in-Ok.ensures s kit x e keeps hands in
    comes_on g.K.Keys.Verifier g.K.Pen.Signer s kit x e c.step-2.new.self.core c.books_follow_deliveries.ensures
    c.find_room.new.journals c.write.new.journals room.0 (c.in-Ok-step.ensures.happens s x.state shows) room.1
    (c.in_ok-write.ensures s x e room.1.holds hands room.0)
