use Rattle.decision_log.proofs.RunLaws.{in_order}
use Rattle.decision_log.proofs.laws.one_decision_per_decided_view.Goals as goal

pub returns : goal.returns
returns c = λ start steps i j d p l. (in_order start steps i j d p l).one
