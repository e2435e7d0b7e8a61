use Rattle.schedule_replay.proofs.ReasonLaws.{lacks_at}
use Rattle.schedule_replay.proofs.course.Course.lacks_journal.Goals as goal

pub returns-in-Stop : goal.returns-in-Stop
returns-in-Stop c = λ r h.
    lacks_at r c.args.line.now c.in-Stop.shard c.in-Stop.replica c.in-Stop.message c.in-Stop.write c.in-Stop.bytes c.has.result c.in-Stop.is
    (c.has.ensures _ _ r.journals h.journals.holds)
