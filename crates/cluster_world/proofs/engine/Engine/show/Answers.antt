use Rattle.std.proofs.Common.{refl}
use Rattle.cluster_world.proofs.SendingLaws.{not_shown, shown}
use Rattle.cluster_world.proofs.engine.Engine.show.Goals as goal

pub returns-in_err-see : goal.returns-in_err-see
returns-in_err-see g c = λ s st h.
    let old = c.args.self.now in
    not_shown g.V.Verifier g.S.Signer s old (record old { sight = c.see.new.self }) st c.args.frame.now c.from_residual.result
    c.in_err-see.field-0.0 c.from_residual.ensures.1 c.in_err-see.ensures.breach h

pub returns : goal.returns
returns g c = λ s st h.
    let old = c.args.self.now in
    shown g.V.Verifier g.S.Signer s old (record old { sight = c.see.new.self }) st c.args.frame.now refl c.in_ok-see.ensures.seen h
