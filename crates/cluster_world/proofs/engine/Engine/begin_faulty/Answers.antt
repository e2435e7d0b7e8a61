use Rattle.cluster_world.proofs.BeginLaws.{began_faulty}
use Rattle.cluster_world.proofs.engine.Engine.begin_faulty.Goals as goal

pub returns : goal.returns
returns g c s st h faulty =
    began_faulty g.V.Verifier g.S.Signer s st c.args.client c.args.time c.of_faulty-begun.result _ c.of_faulty-begun.ensures
    (c.add_begun.ensures s st (c.in_ok-make_room.ensures.shows s st h))
