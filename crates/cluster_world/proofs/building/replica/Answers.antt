use Rattle.std.proofs.Common.{refl}
use Rattle.cluster_world.specs.Building.{setup_of}
use Rattle.cluster_world.proofs.building.replica.Goals as goal

pub returns : goal.returns
returns g c = λ faulty.
    c.new.ensures (setup_of c.args.beginning.now faulty (g.K.Kit.value c.args.kit.now)) refl refl c.in_ok-own.ensures.kit
