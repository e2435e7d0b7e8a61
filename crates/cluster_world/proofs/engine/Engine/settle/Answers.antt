use Rattle.std.proofs.Common.{refl}
use Rattle.client_core.specs.Calls.{call_settle}
use Rattle.cluster_run.specs.Parts.{client_self}
use Rattle.cluster_world.proofs.BeginLaws.{comes_as, comes_same}
use Rattle.cluster_world.proofs.PrepareLaws.{held_calls, held_quiet, unheld_comes}
use Rattle.cluster_world.proofs.engine.Engine.settle.Goals as goal

pub returns-in-Ok-Some : goal.returns-in-Ok-Some
returns-in-Ok-Some g c s st h =
    let client = c.args.client in
    let slot = c.in-Ok-Some.slot in
    comes_as g.V.Verifier g.S.Signer s st _ _ _ _
    (held_calls s st c.args.tx client slot c.in-Ok-Some.field-0 (call_settle (client_self s client)) (c.in-Ok-Some.ensures s st h)
    c.in-Ok-Some.field-0-is)
    (c.call.ensures s st (λ x. call_settle (client_self s client) x slot) h (λ x. refl))

pub returns-in-Ok-None : goal.returns-in-Ok-None
returns-in-Ok-None g c s st h =
    comes_same g.V.Verifier g.S.Signer s st c.args.self.now _
    (held_quiet s st c.args.tx c.args.client c.in-Ok-None.field-0 (call_settle (client_self s c.args.client)) (c.in-Ok-None.ensures s st h)
    c.in-Ok-None.field-0-is) h

pub returns-in-Err : goal.returns-in-Err
returns-in-Err g c s st h =
    unheld_comes g.V.Verifier g.S.Signer s c.args.self.now st c.args.tx c.args.client (call_settle (client_self s c.args.client))
    c.in-Err.fault (c.in-Err.ensures s st h) h
