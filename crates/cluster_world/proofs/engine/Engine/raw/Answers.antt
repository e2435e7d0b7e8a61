use Rattle.cluster_world.proofs.LyingLaws.{raw_comes}
use Rattle.cluster_world.proofs.engine.Engine.raw.Goals as goal

pub returns : goal.returns
returns g c = λ s st h.
    raw_comes g.V.Verifier g.S.Signer s st c.args.from c.args.to c.in_ok-frame.frame c.args.frame.now c.enter.new.self c.enter.result
    c.in_ok-frame.ensures (c.enter.ensures s st h)
