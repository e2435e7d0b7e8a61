use Rattle.basil_types.specs.Shown.{transaction_of}
use Rattle.basil_types.specs.Transaction.{canonical}
use Rattle.frame_views.specs.Shown.{certificate_of}
use Rattle.frame_views.specs.Spelling.{certificate_bytes}
use Rattle.frame_writing.proofs.JoinLaws.{headed_joined}
use Rattle.frame_writing.proofs.frames.write_writeback.Goals as goal

pub returns-clause-writes : goal.returns-clause-writes
returns-clause-writes c =
    headed_joined c.args.out.now.written
    (canonical (transaction_of c.args.m.now.transaction)) (certificate_bytes (certificate_of c.args.m.now.certificate))
    _ _ _ 7 c.in_ok-push.ensures.writes c.in_ok-write_transaction.ensures.writes c.in_ok-write_stored.ensures.writes
