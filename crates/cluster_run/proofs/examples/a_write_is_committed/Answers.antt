use Rattle.cluster_run.proofs.OneWrite.{one_write_commits}
use Rattle.cluster_run.proofs.examples.a_write_is_committed.Goals as goal

pub returns : goal.returns
returns c = one_write_commits
