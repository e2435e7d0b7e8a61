use Rattle.std.proofs.Common.{ℕ, Some, length, refl}
use Rattle.client_core.specs.Calls.{call_begin}
use Rattle.cluster_run.specs.Events.{begun_by, called, with_begun}
use Rattle.cluster_world.specs.Asking.{with_client}
use Rattle.cluster_world.proofs.BeginLaws.{began, comes_not_called}
use Rattle.cluster_world.proofs.engine.Engine.begin_own.Goals as goal

pub returns-in-Ok : goal.returns-in-Ok
returns-in-Ok g c s st caller h number_of at =
    let ready = c.in_ok-make_room.ensures.shows s st h in
    let did = c.in-Ok.ensures.called s st caller ready at in
    began g.V.Verifier g.S.Signer s c.make_room.new.self.pool st c.args.client c.args.place c.args.time caller did.0 c.in-Ok.slot
    c.of_slot-begun.result _ number_of did.1 c.pool_keeps_limits.ensures ready.posts ready.stands.limits
    (c.in-Ok.ensures.slot s st caller ready at) c.of_slot-begun.ensures
    (c.add_begun.ensures s (with_client c.args.place did.0.client st) did.2)

pub returns-in-Err : goal.returns-in-Err
returns-in-Err g c s st caller h number_of at =
    let begun = with_begun (begun_by c.args.client c.args.time (Some (length caller.slots))) st in
    let answer = call_begin caller c.args.time in
    comes_not_called g.V.Verifier g.S.Signer s ℕ st c.begin_at.new.self c.args.client c.args.place
    (called s c.args.client answer begun) answer begun c.in-Err.fault c.of_call.result refl
    (c.in-Err.ensures.called s st caller (c.in_ok-make_room.ensures.shows s st h) at) c.of_call.ensures
