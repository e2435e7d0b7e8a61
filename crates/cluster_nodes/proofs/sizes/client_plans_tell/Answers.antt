use Rattle.cluster_nodes.proofs.ClientTelling.{ask_counts}
use Rattle.cluster_nodes.proofs.sizes.client_plans_tell.Goals as goal

pub returns : goal.returns
returns c = ask_counts
