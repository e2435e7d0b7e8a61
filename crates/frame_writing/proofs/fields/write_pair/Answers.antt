use Rattle.basil_types.specs.Shown.{transaction_of}
use Rattle.basil_types.specs.Transaction.{canonical}
use Rattle.frame_views.specs.Shown.{certificate_of}
use Rattle.frame_views.specs.Spelling.{certificate_bytes}
use Rattle.frame_writing.proofs.JoinLaws.{joined}
use Rattle.frame_writing.proofs.fields.write_pair.Goals as goal

pub returns-clause-writes : goal.returns-clause-writes
returns-clause-writes c =
    joined c.args.out.now.written (canonical (transaction_of c.args.transaction.now))
    (certificate_bytes (certificate_of c.args.certificate.now)) _ _ c.in_ok-write_transaction.ensures.writes
    c.in_ok-write_stored.ensures.writes
