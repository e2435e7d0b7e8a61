use Rattle.run_sight.specs.Sights.{sight_of}
use Rattle.cluster_world.proofs.engine.Engine.is_faulty.Goals as goal

pub returns : goal.returns
returns g c = λ s st h. c.is_faulty.ensures s (sight_of st) h.stands.earlier h.stands.sight
