use Rattle.std.proofs.Common.{sym, ◌∙◌}
use Rattle.schedule_replay.proofs.ReasonLaws.{can_stop}
use Rattle.schedule_replay.proofs.course.Course.reason_of.Goals as goal

pub returns-else-lacks_journal-clause-stop : goal.returns-else-lacks_journal-clause-stop
returns-else-lacks_journal-clause-stop c = λ none.
    can_stop c.args.self.now.cluster c.args.line.now (sym c.is_outside.ensures ∙ c.if-is_outside.false)
