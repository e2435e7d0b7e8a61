use Rattle.basil_types.specs.Transaction.{canonical}
use Rattle.frame_views.specs.Spelling.{certificate_bytes}
use Rattle.frame_values.specs.Owned.{certificate_value}
use Rattle.frame_writing.proofs.JoinLaws.{joined}
use Rattle.frame_writing.proofs.certificates.write_owned_pair.Goals as goal

pub returns-clause-writes : goal.returns-clause-writes
returns-clause-writes c =
    joined c.args.out.now.written (canonical c.args.transaction.now) (certificate_bytes (certificate_value c.args.certificate.now)) _ _
    c.in_ok-write_owned_transaction.ensures.writes c.in_ok-write_owned.ensures.writes
