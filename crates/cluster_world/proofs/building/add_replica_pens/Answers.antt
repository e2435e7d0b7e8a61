use Rattle.cluster_world.proofs.BuildingLaws.{next_shard_pens}
use Rattle.cluster_world.proofs.building.add_replica_pens.Goals as goal

pub loop-shard-preserved : goal.loop-shard-preserved
loop-shard-preserved g c = λ s kit.
    next_shard_pens g.K.Pen.Signer s c.args.faulty.now c.args.cluster.now c.loop-shard.shard c.args.pens.now c.loop-shard.pens
    c.add_shard_pens.new.pens (c.loop-shard.invariant s kit) (c.in_ok-add_shard_pens.ensures s kit)
