use Rattle.cluster_run.specs.States.{first_standing}
use Rattle.cluster_world.specs.Building.{setup_of}
use Rattle.cluster_world.proofs.BuildingLaws.{one_replica}
use Rattle.cluster_world.proofs.building.add_replica.Goals as goal

pub returns : goal.returns
returns g c = λ faulty.
    let s = setup_of c.args.beginning.now faulty (g.K.Kit.value c.args.kit.now) in
    one_replica s c.args.nodes.now.items c.push.new.self.items c.in_ok-replica.field-0
    (first_standing s c.args.shard c.args.index) c.in_ok-push.ensures.items (c.in_ok-replica.ensures faulty)
