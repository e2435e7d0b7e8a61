use Rattle.std.proofs.Common.{◌≡◌, map}
use Rattle.std.specs.List.{range_with_len}
use Rattle.basil_types.specs.declared.party.Party.TheVariants.{Replica}
use Rattle.cluster_run.specs.States.{Setup}
use Rattle.cluster_world.specs.Building.{AddsPens}
use Rattle.cluster_world.proofs.building.add_shard_pens.Given as goal

abbrev pub invariant-loop-index : goal.invariant-loop-index
invariant-loop-index g l =
    (s : Setup) → s.kit ≡ g.K.Kit.value l.kit →
    AddsPens g.K.Pen.Signer s l.faulty (map (Replica l.shard) (range_with_len 0 l.index)) l.initial.pens l.pens
