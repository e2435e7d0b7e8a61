use Rattle.schedule_replay.proofs.ReasonLaws.{no_message}
use Rattle.schedule_replay.proofs.course.Course.has_no_message.Goals as goal

pub returns-else-message-lt1 : goal.returns-else-message-lt1
returns-else-message-lt1 c = λ r h.
    no_message r.state c.messages.result c.args.message c.if-message-lt1.false (c.messages.ensures r.setup r.state h.shows)
