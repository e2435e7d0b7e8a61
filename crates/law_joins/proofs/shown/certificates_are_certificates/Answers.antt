use Rattle.law_joins.proofs.Proving.{certificates_are_certificates}
use Rattle.law_joins.proofs.shown.certificates_are_certificates.Goals as goal

pub returns : goal.returns
returns c =
    certificates_are_certificates c.commits_show_quorums.ensures.can_commit c.aborts_show_quorums.ensures.by_kind
    c.commits_are_commits.ensures c.aborts_are_aborts.ensures
