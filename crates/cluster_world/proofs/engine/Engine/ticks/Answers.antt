use Rattle.std.proofs.Common.{refl}
use Rattle.cluster_world.proofs.engine.Engine.ticks.Goals as goal

pub returns : goal.returns
returns g c = λ s st h. (_, refl, c.set_clock.ensures s st h)
