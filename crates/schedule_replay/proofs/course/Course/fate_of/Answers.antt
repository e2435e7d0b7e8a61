use Rattle.schedule_replay.proofs.Reporting.{decided_by_id}
use Rattle.schedule_replay.proofs.course.Course.fate_of.Goals as goal

pub returns : goal.returns
returns c = λ r s.
    decided_by_id r.state c.args.tx c.in_ok-id.id c.decision_of.result (c.in_ok-id.ensures r s)
    (c.decision_of.ensures r.setup r.state s.shows)
