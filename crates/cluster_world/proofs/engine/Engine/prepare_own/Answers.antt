use Rattle.std.proofs.Common.{◌∙◌, refl}
use Rattle.client_core.specs.Calls.{call_prepare}
use Rattle.cluster_run.specs.Parts.{client_self}
use Rattle.std.specs.Prelude.{suc}
use Rattle.cluster_world.proofs.BeginLaws.{caller, comes_same}
use Rattle.cluster_world.proofs.PrepareLaws.{full_comes, prepares_nobody, refused_comes, sent_comes}
use Rattle.cluster_world.proofs.engine.Engine.prepare_own.Goals as goal

pub returns-in_default : goal.returns-in_default
returns-in_default g c s st b h begun own =
    comes_same g.V.Verifier g.S.Signer s st c.args.self.now _
    (prepares_nobody s st c.args.tx c.args.slot c.args.client b own (c.in_default.ensures.nobody s st h.stands refl)) h

pub returns-in-Refused : goal.returns-in-Refused
returns-in-Refused g c s st b h begun own =
    let old = c.args.self.now in
    let place = c.in-Some.place in
    let there = c.in-Some.ensures.there in
    let k = caller g.V.Verifier g.S.Signer s old st place h.stands there.0 in
    refused_comes s st c.args.tx c.args.slot c.args.client place b k.0 own there.1 (c.in-Some.ensures.somebody s st h.stands ∙ k.1)
    g.V.Verifier g.S.Signer old c.ask.new.self c.answered.new.self c.in_ok-handled.ensures.pool h c.in_ok-handled.handled
    (c.in_ok-handled.ensures.asked s st k.0 h.stands k.1)
    c.in-Refused.fault c.answered.result c.in-Refused.is
    (c.answered.ensures s st place (call_prepare (client_self s (suc place)) k.0 c.args.slot) there.1)

pub returns-in-Full : goal.returns-in-Full
returns-in-Full g c s st b h begun own =
    let old = c.args.self.now in
    let place = c.in-Some.place in
    let there = c.in-Some.ensures.there in
    let k = caller g.V.Verifier g.S.Signer s old st place h.stands there.0 in
    full_comes s st c.args.tx c.args.slot c.args.client place b k.0 own there.1 (c.in-Some.ensures.somebody s st h.stands ∙ k.1)
    g.V.Verifier g.S.Signer old c.ask.new.self c.ask.new.self c.in_ok-handled.ensures.pool h c.in_ok-handled.handled
    (c.in_ok-handled.ensures.asked s st k.0 h.stands k.1)
    _ c.in-Full.is c.in_ok-handled.ensures.within c.full.ensures

pub returns-in-Sent : goal.returns-in-Sent
returns-in-Sent g c s st b h begun own =
    let old = c.args.self.now in
    let place = c.in-Some.place in
    let there = c.in-Some.ensures.there in
    let k = caller g.V.Verifier g.S.Signer s old st place h.stands there.0 in
    sent_comes s st c.args.tx c.args.slot c.args.client place b k.0 own there.1 (c.in-Some.ensures.somebody s st h.stands ∙ k.1)
    g.V.Verifier g.S.Signer old c.ask.new.self c.send_formed.new.self c.in_ok-handled.ensures.pool h c.in_ok-handled.handled
    (c.in_ok-handled.ensures.asked s st k.0 h.stands k.1)
    c.in-Sent.out c.send_formed.result c.in-Sent.is begun k.1
    (λ now after said mail shows held at holds. c.send_formed.ensures s st now b after said mail shows held at holds)
