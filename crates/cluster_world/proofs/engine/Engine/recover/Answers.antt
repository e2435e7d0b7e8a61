use Rattle.std.proofs.Common.{refl}
use Rattle.cluster_world.proofs.BeginLaws.{caller, comes_same}
use Rattle.cluster_world.proofs.PrepareLaws.{recover_comes, recovers_nobody, unformed_comes}
use Rattle.cluster_world.proofs.engine.Engine.recover.Goals as goal

pub returns-in_default : goal.returns-in_default
returns-in_default g c s st h =
    comes_same g.V.Verifier g.S.Signer s st c.args.self.now _
    (recovers_nobody s st c.args.tx c.args.client (c.in_default.ensures.nobody s st h.stands refl)) h

pub returns-in-Some-2 : goal.returns-in-Some-2
returns-in-Some-2 g c s st h =
    let old = c.args.self.now in
    let there = c.in-Some.ensures.there in
    let own = caller g.V.Verifier g.S.Signer s old st c.in-Some.place h.stands there.0 in
    recover_comes g.V.Verifier g.S.Signer s old c.ask_recovery.new.self c.answered.new.self st c.args.tx c.args.client c.in-Some.place
    own.0 there.1
    (c.in-Some.ensures.somebody s st h.stands) own.1 c.in_ok-handled.ensures.pool h c.in_ok-handled.field-0
    (c.in_ok-handled.ensures.asked s st own.0 h.stands own.1) c.in-Some-2.handled c.answered.result c.in-Some-2.is
    (λ answer posts seen does. c.answered.ensures s st c.in-Some.place answer there.1 posts seen does)

pub returns-in-None : goal.returns-in-None
returns-in-None g c s st h =
    let old = c.args.self.now in
    let there = c.in-Some.ensures.there in
    let own = caller g.V.Verifier g.S.Signer s old st c.in-Some.place h.stands there.0 in
    unformed_comes g.V.Verifier g.S.Signer s old c.ask_recovery.new.self c.ask_recovery.new.self st c.args.tx c.args.client
    c.in-Some.place own.0 there.1
    (c.in-Some.ensures.somebody s st h.stands) own.1 c.in_ok-handled.ensures.pool h c.in_ok-handled.field-0
    (c.in_ok-handled.ensures.asked s st own.0 h.stands own.1) c.in-None.is
