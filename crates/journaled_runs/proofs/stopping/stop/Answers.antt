use Rattle.std.proofs.Common.{◌≡◌, ◌∙◌, ap, subst}
use Rattle.cluster_world.specs.EventValues.{event_value}
use Rattle.journaled_runs.specs.Handing.{WritesNothing}
use Rattle.journaled_runs.specs.Journaling.{handing}
use Rattle.journaled_runs.proofs.Diverting.{takes_none}
use Rattle.journaled_runs.proofs.StopLaws.{by_event, stop_full, stop_quiet}
use Rattle.delivery_laws.specs.Deliveries.{takes}
use Rattle.std.specs.Prelude.{None, Err}
use Rattle.journaled_runs.proofs.stopping.stop.Goals as goal

pub returns-in-None-clause-comes : goal.returns-in-None-clause-comes
returns-in-None-clause-comes g c = λ s x shows keeps has.
    let e = event_value c.handing-event.result in
    let asked = handing x.state c.args.message c.args.shard c.args.index c.args.given.now in
    let kit = g.K.Kit.value c.args.world.now.kit in
    let same : e ≡ asked = c.handing-event.ensures s x.state shows in
    let none : takes s x.state asked ≡ None =
    takes_none s x c.args.message c.args.shard c.args.index c.args.given.now has
    (subst (WritesNothing s x) same (c.in-None.ensures s x shows keeps)) in
    by_event g.K.Keys.Verifier g.K.Pen.Signer s kit x c.args.stop c.step.new.self.core c.args.journals.now c.step.result e asked same
    (stop_quiet g.K.Keys.Verifier g.K.Pen.Signer s kit x e c.args.stop c.step.new.self.core c.books_follow_deliveries.ensures
    c.args.journals.now keeps (ap (takes s x.state) same ∙ none) c.step.result (c.step.ensures.happens s x.state shows))

pub returns-in-Err-clause-comes : goal.returns-in-Err-clause-comes
returns-in-Err-clause-comes g c = λ s x shows keeps has.
    let e = event_value c.handing-event.result in
    let asked = handing x.state c.args.message c.args.shard c.args.index c.args.given.now in
    let kit = g.K.Kit.value c.args.world.now.kit in
    by_event g.K.Keys.Verifier g.K.Pen.Signer s kit x c.args.stop c.args.world.now.core c.find_room.new.journals
    (Err c.in-Err.fault) e asked
    (c.handing-event.ensures s x.state shows)
    (stop_full g.K.Keys.Verifier g.K.Pen.Signer s kit x e c.args.stop c.args.world.now.core c.find_room.new.journals c.in-Err.fault
    (c.in-Err.ensures s kit x e keeps (c.in-Some.ensures s x shows keeps)) shows)

pub returns-then-keeps_record-clause-comes : goal.returns-then-keeps_record-clause-comes
returns-then-keeps_record-clause-comes g c = λ s x shows keeps has.
    let e = event_value c.handing-event.result in
    let asked = handing x.state c.args.message c.args.shard c.args.index c.args.given.now in
    let kit = g.K.Kit.value c.args.world.now.kit in
    let hands = c.in-Some.ensures s x shows keeps in
    let room = c.in-Ok.ensures s kit x e keeps hands in
    by_event g.K.Keys.Verifier g.K.Pen.Signer s kit x c.args.stop c.stop_behind.new.world.core c.stop_behind.new.journals
    c.stop_behind.result e asked (c.handing-event.ensures s x.state shows) (c.stop_behind.ensures.comes s x shows room.1 hands room.0)

pub returns-else-keeps_record-clause-comes : goal.returns-else-keeps_record-clause-comes
returns-else-keeps_record-clause-comes g c = λ s x shows keeps has.
    let e = event_value c.handing-event.result in
    let asked = handing x.state c.args.message c.args.shard c.args.index c.args.given.now in
    let kit = g.K.Kit.value c.args.world.now.kit in
    let hands = c.in-Some.ensures s x shows keeps in
    let room = c.in-Ok.ensures s kit x e keeps hands in
    by_event g.K.Keys.Verifier g.K.Pen.Signer s kit x c.args.stop c.stop_before.new.world.core c.stop_before.new.journals
    c.stop_before.result e asked (c.handing-event.ensures s x.state shows) (c.stop_before.ensures.comes s x shows room.1 hands room.0)
