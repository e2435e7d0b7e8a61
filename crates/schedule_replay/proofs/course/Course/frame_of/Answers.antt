use Rattle.std.proofs.Common.{◌∙◌}
use Rattle.schedule_replay.proofs.Stepping.{frame_is}
use Rattle.schedule_replay.proofs.course.Course.frame_of.Goals as goal

pub returns-in_ok-from_slice-in-Some : goal.returns-in_ok-from_slice-in-Some
returns-in_ok-from_slice-in-Some c = λ r h.
    c.in_ok-from_slice-in-Some.ensures.items ∙ frame_is _ r.state c.args.message (c.in-Some.ensures r.setup r.state h.shows)

pub returns-in-None : goal.returns-in-None
returns-in-None c = λ r h. c.new.ensures.items ∙ frame_is _ r.state c.args.message (c.in-None.ensures r.setup r.state h.shows)
