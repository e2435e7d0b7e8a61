use Rattle.std.proofs.Common.{List}
use Rattle.basil_types.specs.declared.party.Party.{Party}
use Rattle.cluster_world.specs.Building.{AreCallers, first_clients, setup_of}
use Rattle.cluster_world.proofs.building.all_clients.Given as goal

abbrev pub invariant-loop-place : goal.invariant-loop-place
invariant-loop-place g l =
    (faulty : List Party) → let s = setup_of l.beginning faulty (g.K.Kit.value l.kit) in
    AreCallers s l.nodes.items (first_clients s l.place)
