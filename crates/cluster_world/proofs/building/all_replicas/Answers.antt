use Rattle.std.proofs.Common.{◌≡◌, ap, arith, subst}
use Rattle.cluster_world.specs.Building.{AreReplicas, first_shards, setup_of}
use Rattle.cluster_world.proofs.BuildingLaws.{next_shard}
use Rattle.cluster_world.proofs.building.all_replicas.Goals as goal

pub loop-shard-preserved : goal.loop-shard-preserved
loop-shard-preserved g c = λ faulty.
    next_shard (setup_of c.args.beginning.now faulty (g.K.Kit.value c.args.kit.now)) c.loop-shard.shard
    c.loop-shard.nodes.items c.add_shard.new.nodes.items (c.loop-shard.invariant faulty) (c.in_ok-add_shard.ensures faulty)

pub returns : goal.returns
returns g c = λ faulty.
    let s = setup_of c.args.beginning.now faulty (g.K.Kit.value c.args.kit.now) in
    let same : c.loop-shard.shard ≡ c.args.beginning.now.cluster.shards =
    omega (arith, c.loop-shard-test.false, c.loop-shard.auto.shard-end, ap (λ b. b.cluster.shards) c.beginning.view_is) in
    subst (λ n. AreReplicas s c.loop-shard.nodes.items (first_shards s n)) same (c.loop-shard.invariant faulty)
