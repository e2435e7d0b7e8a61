use Rattle.cluster_world.proofs.TellingLaws.{if_ok_map}
use Rattle.cluster_world.proofs.engine.Engine.committed.Goals as goal

pub returns : goal.returns
returns g c = if_ok_map c.committed.result _ _ (λ ts told s st h. told s st h.stands.earlier h.stands.sight) c.committed.ensures
