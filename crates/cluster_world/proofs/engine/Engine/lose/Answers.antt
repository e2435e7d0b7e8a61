use Rattle.std.proofs.Common.{◌∙◌, refl, sym}
use Rattle.cluster_world.proofs.HandingLaws.{loses}
use Rattle.cluster_world.proofs.engine.Engine.lose.Goals as goal

pub returns-then-is_some : goal.returns-then-is_some
returns-then-is_some g c = λ s st h.
    loses g.V.Verifier g.S.Signer s c.args.self.now _ st c.args.message c.parties_of.result c.parties_of.ensures.parties
    (sym c.is_some.ensures ∙ c.if-is_some.true) refl c.lose.ensures.limits c.lose.ensures.posts h
