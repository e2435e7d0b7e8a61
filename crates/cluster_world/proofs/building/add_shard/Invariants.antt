use Rattle.std.proofs.Common.{List, map}
use Rattle.std.specs.List.{range_with_len}
use Rattle.basil_types.specs.declared.party.Party.{Party}
use Rattle.cluster_run.specs.States.{first_standing}
use Rattle.cluster_world.specs.Building.{AddsReplicas, setup_of}
use Rattle.cluster_world.proofs.building.add_shard.Given as goal

abbrev pub invariant-loop-index : goal.invariant-loop-index
invariant-loop-index g l =
    (faulty : List Party) → let s = setup_of l.beginning faulty (g.K.Kit.value l.kit) in
    AddsReplicas s (map (first_standing s l.shard) (range_with_len 0 l.index)) l.initial.nodes.items l.nodes.items
