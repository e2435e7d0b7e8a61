use Rattle.std.proofs.Common.{◌≡◌}
use Rattle.cluster_run.specs.States.{Setup}
use Rattle.cluster_world.specs.Building.{AddsPens, client_parties}
use Rattle.cluster_world.proofs.building.add_client_pens.Given as goal

abbrev pub invariant-loop-place : goal.invariant-loop-place
invariant-loop-place g l =
    (s : Setup) → s.kit ≡ g.K.Kit.value l.kit →
    AddsPens g.K.Pen.Signer s l.faulty (client_parties l.place) l.initial.pens l.pens
