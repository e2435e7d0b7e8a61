use Rattle.basil_types.specs.Shown.{transaction_of}
use Rattle.basil_types.specs.Transaction.{canonical}
use Rattle.frame_views.specs.Shown.{decide_of}
use Rattle.frame_writing.specs.Unsigned.{proposal_front}
use Rattle.frame_writing.proofs.JoinLaws.{headed_joined}
use Rattle.frame_writing.proofs.unsigned.write_unsigned_decide.Goals as goal

pub returns-clause-writes : goal.returns-clause-writes
returns-clause-writes c =
    headed_joined c.args.out.now.written (canonical (transaction_of c.args.m.now.transaction)) (proposal_front (decide_of c.args.m.now))
    _ _ _ 11 c.in_ok-push.ensures.writes c.in_ok-write_transaction.ensures.writes c.in_ok-write_proposal.ensures.writes
