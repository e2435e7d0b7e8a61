use Rattle.std.proofs.Common.{List}
use Rattle.basil_types.specs.declared.party.Party.{Party}
use Rattle.cluster_world.specs.Building.{AreReplicas, first_shards, setup_of}
use Rattle.cluster_world.proofs.building.all_replicas.Given as goal

abbrev pub invariant-loop-shard : goal.invariant-loop-shard
invariant-loop-shard g l =
    (faulty : List Party) → let s = setup_of l.beginning faulty (g.K.Kit.value l.kit) in
    AreReplicas s l.nodes.items (first_shards s l.shard)
