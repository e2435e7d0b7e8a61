use Rattle.std.proofs.Common.{ap, Some, ◌∙◌}
use Rattle.std.specs.Prelude.{option_map}
use Rattle.basil_types.specs.Transaction.{id}
use Rattle.schedule_replay.proofs.course.Course.id_at.Goals as goal

pub returns-in-Some : goal.returns-in-Some
returns-in-Some c = λ r s.
    ap Some (c.id.ensures)
    ∙ ap (option_map id) (c.in-Some.ensures r.setup r.state s.shows)

pub returns-in-None : goal.returns-in-None
returns-in-None c = λ r s. ap (option_map id) (c.in-None.ensures r.setup r.state s.shows)
