use Rattle.std.proofs.Common.{◌≡◌}
use Rattle.cluster_run.specs.States.{Setup}
use Rattle.cluster_world.specs.Building.{AddsPens, parties_of_shards}
use Rattle.cluster_world.proofs.building.add_replica_pens.Given as goal

abbrev pub invariant-loop-shard : goal.invariant-loop-shard
invariant-loop-shard g l =
    (s : Setup) → s.kit ≡ g.K.Kit.value l.kit →
    AddsPens g.K.Pen.Signer s l.faulty (parties_of_shards l.cluster l.shard) l.initial.pens l.pens
