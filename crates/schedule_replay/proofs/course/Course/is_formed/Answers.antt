use Rattle.std.proofs.Common.{◌∙◌}
use Rattle.basil_types.specs.Shown.{transaction_of}
use Rattle.schedule_replay.proofs.ReasonLaws.{formed}
use Rattle.schedule_replay.proofs.course.Course.is_formed.Goals as goal

pub returns-in-Some : goal.returns-in-Some
returns-in-Some c = λ r h.
    c.is_some.ensures
    ∙ formed transaction_of c.transaction.result r c.args.self.now.names c.args.name.now c.in-Some.tx h.names c.in-Some.ensures
    (c.transaction.ensures r.setup r.state h.shows)
