use Rattle.cluster_world.proofs.HandingLaws.{divert_comes, divert_fails}
use Rattle.cluster_world.proofs.engine.Engine.divert.Goals as goal

pub returns-in_err-took : goal.returns-in_err-took
returns-in_err-took g c = λ s st h.
    divert_fails g.V.Verifier g.S.Signer s c.args.self.now c.hand.new.self st c.args.message c.in-Some.from c.in-Some.field-0-1 c.args.to
    c.args.given.now c.parties_of.result c.in-Some.is c.parties_of.ensures.parties h c.in_err-took.ensures.pool c.from_residual.result
    c.in_err-took.field-0.0 c.from_residual.ensures.1 (c.in_err-took.ensures.handed s)

pub returns : goal.returns
returns g c = λ s st h.
    divert_comes g.V.Verifier g.S.Signer s c.args.self.now c.hand.new.self st c.args.message c.in-Some.from c.in-Some.field-0-1 c.args.to
    c.args.given.now c.parties_of.result c.in-Some.is c.parties_of.ensures.parties h c.in_ok-took.ensures.pool c.react.new.self
    c.in_ok-took.took c.react.result (c.in_ok-took.ensures.handed s) (c.react.ensures s)
