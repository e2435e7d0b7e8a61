use Rattle.certificates.proofs.QuorumLaws.{commits_show, commits_can}
use Rattle.certificates.proofs.laws.commits_show_quorums.Goals as goal

pub returns-clause-by_kind : goal.returns-clause-by_kind
returns-clause-by_kind c = commits_show

pub returns-clause-can_commit : goal.returns-clause-can_commit
returns-clause-can_commit c = commits_can
