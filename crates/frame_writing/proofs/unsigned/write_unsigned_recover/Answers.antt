use Rattle.basil_types.specs.Shown.{transaction_of}
use Rattle.basil_types.specs.Transaction.{canonical}
use Rattle.frame_writing.proofs.JoinLaws.{headed}
use Rattle.frame_writing.proofs.unsigned.write_unsigned_recover.Goals as goal

pub returns-clause-writes : goal.returns-clause-writes
returns-clause-writes c =
    headed c.args.out.now.written (canonical (transaction_of c.args.m.now.transaction))
    _ _ 8 c.in_ok-push.ensures.writes c.in_ok-write_transaction.ensures.writes
