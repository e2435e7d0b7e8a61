use Rattle.certificates.proofs.QuorumLaws.{aborts_show, aborts_can}
use Rattle.certificates.proofs.laws.aborts_show_quorums.Goals as goal

pub returns-clause-by_kind : goal.returns-clause-by_kind
returns-clause-by_kind c = aborts_show

pub returns-clause-can_abort : goal.returns-clause-can_abort
returns-clause-can_abort c = aborts_can
