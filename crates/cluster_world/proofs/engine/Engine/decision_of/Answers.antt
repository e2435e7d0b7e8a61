use Rattle.cluster_world.proofs.engine.Engine.decision_of.Goals as goal

pub returns : goal.returns
returns g c = λ s st h. c.decision_of.ensures s st h.stands.earlier h.stands.sight
