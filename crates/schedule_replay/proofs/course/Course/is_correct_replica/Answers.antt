use Rattle.std.proofs.Common.{ap, not}
use Rattle.schedule_replay.proofs.course.Course.is_correct_replica.Goals as goal

pub returns : goal.returns
returns c = λ r h. ap not (c.is_faulty.ensures r.setup r.state h.shows)
