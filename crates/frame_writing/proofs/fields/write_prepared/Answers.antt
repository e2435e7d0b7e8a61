use Rattle.basil_types.specs.Transaction.{canonical}
use Rattle.frame_writing.proofs.JoinLaws.{headed}
use Rattle.frame_writing.proofs.fields.write_prepared.Goals as goal

pub returns-in_ok-write_transaction-in-Some-clause-writes : goal.returns-in_ok-write_transaction-in-Some-clause-writes
returns-in_ok-write_transaction-in-Some-clause-writes c =
    rw c.in-Some.is (headed c.args.out.now.written
    (canonical _) _ _ 1 c.in_ok-push-in-Some.ensures.writes c.in_ok-write_transaction-in-Some.ensures.writes)
