use Rattle.basil_types.specs.Transaction.{canonical}
use Rattle.frame_views.specs.Spelling.{commit_bytes}
use Rattle.frame_values.specs.Owned.{commit_value}
use Rattle.frame_writing.proofs.JoinLaws.{joined}
use Rattle.frame_writing.proofs.certificates.write_proof.Goals as goal

pub returns-clause-writes : goal.returns-clause-writes
returns-clause-writes c =
    joined c.args.out.now.written (canonical c.args.transaction.now)
    (commit_bytes (commit_value c.args.certificate.now.id c.args.certificate.now.body)) _ _
    c.in_ok-write_owned_transaction.ensures.writes c.in_ok-write_commit.ensures.writes
