use Rattle.frame_views.specs.Spelling.{committed_bytes}
use Rattle.frame_writing.proofs.JoinLaws.{headed}
use Rattle.frame_writing.proofs.fields.write_committed.Goals as goal

pub returns-in_ok-write_pair-in-Some-clause-writes : goal.returns-in_ok-write_pair-in-Some-clause-writes
returns-in_ok-write_pair-in-Some-clause-writes c =
    rw c.in-Some.is (headed c.args.out.now.written
    (committed_bytes _) _ _ 1 c.in_ok-push-in-Some.ensures.writes c.in_ok-write_pair-in-Some.ensures.writes)
