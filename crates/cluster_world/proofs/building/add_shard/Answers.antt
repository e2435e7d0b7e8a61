use Rattle.cluster_world.specs.Building.{setup_of}
use Rattle.cluster_world.proofs.BuildingLaws.{next_replica}
use Rattle.cluster_world.proofs.building.add_shard.Goals as goal

pub loop-index-preserved : goal.loop-index-preserved
loop-index-preserved g c = λ faulty.
    next_replica (setup_of c.args.beginning.now faulty (g.K.Kit.value c.args.kit.now)) c.args.shard c.loop-index.index
    c.args.nodes.now.items c.loop-index.nodes.items c.add_replica.new.nodes.items (c.loop-index.invariant faulty)
    (c.in_ok-add_replica.ensures faulty)
