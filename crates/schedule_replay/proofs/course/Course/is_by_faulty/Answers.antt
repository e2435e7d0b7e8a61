use Rattle.schedule_replay.proofs.ReasonLaws.{by_faulty}
use Rattle.schedule_replay.proofs.course.Course.is_by_faulty.Goals as goal

pub returns-in-Some : goal.returns-in-Some
returns-in-Some c = λ r h.
    by_faulty r c.args.self.now.names c.args.name.now c.in-Some.number c.is_faulty.result h.names c.in-Some.ensures
    (c.is_faulty.ensures r.setup r.state h.shows)
