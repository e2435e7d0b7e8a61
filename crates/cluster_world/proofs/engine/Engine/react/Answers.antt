use Rattle.std.proofs.Common.{Ok, Err, refl, subst}
use Rattle.cluster_world.specs.Taking.{Takes}
use Rattle.cluster_world.proofs.HandingLaws.{reacts_nothing, reacts_refused, reacts_sent}
use Rattle.cluster_world.proofs.SendingLaws.{comes_err}
use Rattle.cluster_world.proofs.engine.Engine.react.Goals as goal

pub returns-in-Nothing : goal.returns-in-Nothing
returns-in-Nothing g c = λ s st before pool handles posts seen t.
    reacts_nothing g.V.Verifier g.S.Signer s st pool handles c.args.message c.args.self.now posts seen
    (subst (λ k. Takes s st pool handles c.args.self.now (Ok k)) c.in-Nothing.is t)

pub returns-in-Refused : goal.returns-in-Refused
returns-in-Refused g c = λ s st before pool handles posts seen t.
    reacts_refused g.V.Verifier g.S.Signer s st pool handles c.args.message c.args.self.now _ refl posts seen
    (subst (λ k. Takes s st pool handles c.args.self.now (Ok k)) c.in-Refused.is t)

pub returns-in_err-send-in-Sent : goal.returns-in_err-send-in-Sent
returns-in_err-send-in-Sent g c = λ s st before pool handles posts seen t.
    comes_err g.V.Verifier g.S.Signer s (handles c.args.message st) c.send.new.self before c.from_residual.result
    c.in_err-send-in-Sent.field-0.0 c.from_residual.ensures.1
    (reacts_sent g.V.Verifier g.S.Signer s st pool handles c.args.message c.args.self.now c.send.new.self c.in-Sent.party c.in-Sent.out
    (Err c.in_err-send-in-Sent.field-0.0) posts seen (subst (λ k. Takes s st pool handles c.args.self.now (Ok k)) c.in-Sent.is t)
    (λ now said mail a b. c.in_err-send-in-Sent.ensures s now said mail a b))

pub returns-in_ok-send-in-Sent : goal.returns-in_ok-send-in-Sent
returns-in_ok-send-in-Sent g c = λ s st before pool handles posts seen t.
    reacts_sent g.V.Verifier g.S.Signer s st pool handles c.args.message c.args.self.now c.send.new.self c.in-Sent.party c.in-Sent.out
    (Ok tt) posts seen (subst (λ k. Takes s st pool handles c.args.self.now (Ok k)) c.in-Sent.is t)
    (λ now said mail a b. c.in_ok-send-in-Sent.ensures s now said mail a b)
