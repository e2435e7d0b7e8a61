use Rattle.basil_types.specs.Shown.{transaction_of}
use Rattle.basil_types.specs.Transaction.{canonical}
use Rattle.frame_views.specs.Shown.{st2_of}
use Rattle.frame_writing.specs.Unsigned.{second_bytes}
use Rattle.frame_writing.proofs.JoinLaws.{headed_joined}
use Rattle.frame_writing.proofs.frames.write_st2.Goals as goal

pub returns-clause-writes : goal.returns-clause-writes
returns-clause-writes c =
    headed_joined c.args.out.now.written (canonical (transaction_of c.args.m.now.transaction)) (second_bytes (st2_of c.args.m.now))
    _ _ _ 5 c.in_ok-push.ensures.writes c.in_ok-write_transaction.ensures.writes c.in_ok-write_second.ensures.writes
