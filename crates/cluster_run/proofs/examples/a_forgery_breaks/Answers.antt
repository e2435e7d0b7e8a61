use Rattle.cluster_run.proofs.Forgery.{one_forgery_breaks}
use Rattle.cluster_run.proofs.examples.a_forgery_breaks.Goals as goal

pub returns : goal.returns
returns c = one_forgery_breaks
