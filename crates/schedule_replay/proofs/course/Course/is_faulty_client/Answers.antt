use Rattle.schedule_replay.proofs.course.Course.is_faulty_client.Goals as goal

pub returns : goal.returns
returns c = λ r h. c.is_faulty.ensures r.setup r.state h.shows
