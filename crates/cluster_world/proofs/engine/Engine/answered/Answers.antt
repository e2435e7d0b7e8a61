use Rattle.std.proofs.Common.{Ok, Err, subst, sym}
use Rattle.client_core.specs.Asks.{by_call}
use Rattle.cluster_run.specs.Events as events
use Rattle.cluster_world.specs.Asking.{Does, HasEntry}
use Rattle.cluster_world.specs.Comes.{Comes}
use Rattle.cluster_world.proofs.CallLaws.{call_full, call_goes}
use Rattle.cluster_world.proofs.SendingLaws.{comes_err}
use Rattle.cluster_world.proofs.engine.Engine.answered.Goals as goal

pub returns-in_err-send-in-Sent : goal.returns-in_err-send-in-Sent
returns-in_err-send-in-Sent g c = λ s st place answer e posts seen d.
    let old = c.args.self.now in
    comes_err g.V.Verifier g.S.Signer s (events.called s c.args.number answer st) c.send.new.self st c.from_residual.result
    c.in_err-send-in-Sent.field-0.0 c.from_residual.ensures.1
    (call_goes g.V.Verifier g.S.Signer s st c.args.number place e answer old c.send.new.self c.in-Sent.out
    (Err c.in_err-send-in-Sent.field-0.0) posts seen (subst (λ h. Does s st place old.pool (by_call answer) old h) c.in-Sent.is d)
    (λ now said mail a b. c.in_err-send-in-Sent.ensures s now said mail a b))

pub returns-in-Full : goal.returns-in-Full
returns-in-Full g c = λ s st place answer e posts seen d.
    let old = c.args.self.now in
    subst (λ x. Comes s st (events.called s c.args.number answer st) old (Err x)) (sym c.full.ensures)
    (call_full g.V.Verifier g.S.Signer s st c.args.number place e answer old
    (subst (λ h. HasEntry old.pool h) c.in-Full.is c.requires.within) posts seen
    (subst (λ h. Does s st place old.pool (by_call answer) old h) c.in-Full.is d))

pub returns-in_ok-send-in-Sent : goal.returns-in_ok-send-in-Sent
returns-in_ok-send-in-Sent g c = λ s st place answer e posts seen d.
    let old = c.args.self.now in
    call_goes g.V.Verifier g.S.Signer s st c.args.number place e answer old c.send.new.self c.in-Sent.out (Ok tt) posts seen
    (subst (λ h. Does s st place old.pool (by_call answer) old h) c.in-Sent.is d)
    (λ now said mail a b. c.in_ok-send-in-Sent.ensures s now said mail a b)
