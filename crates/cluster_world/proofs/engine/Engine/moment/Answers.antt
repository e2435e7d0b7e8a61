use Rattle.std.proofs.Common.{sym}
use Rattle.cluster_world.proofs.TakingLaws.{moment_told, no_moment, within_found}
use Rattle.cluster_world.proofs.PairLaws.{got}
use Rattle.cluster_world.proofs.engine.Engine.moment.Goals as goal

pub returns-in-Some : goal.returns-in-Some
returns-in-Some g c = λ s st h.
    let core = c.args.self.now in
    moment_told g.V.Verifier g.S.Signer s core st c.args.shard c.args.index h.stands c.in-Some.place c.index.result.now c.moment.result
    (got core.replicas.items c.in-Some.place c.index.result.now
    (within_found _ core.replicas.items c.in-Some.place (sym c.in-Some.ensures)) c.index.ensures)
    (sym c.in-Some.ensures) (c.moment.ensures s)

pub returns-in-None : goal.returns-in-None
returns-in-None g c = λ s st h.
    no_moment g.V.Verifier g.S.Signer s c.args.self.now st c.args.shard c.args.index h.stands (sym c.in-None.ensures)
