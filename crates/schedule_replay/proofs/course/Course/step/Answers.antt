use Rattle.std.proofs.Common.{refl}
use Rattle.cluster_world.specs.EventValues.{event_value}
use Rattle.journaled_runs.specs.Journaling.{happens_in}
use Rattle.schedule_replay.proofs.Stepping.{stepped}
use Rattle.schedule_replay.specs.Replays.{journaled}
use Rattle.schedule_replay.proofs.course.Course.step.Goals as goal

pub returns-clause-goes : goal.returns-clause-goes
returns-clause-goes c = λ r h.
    stepped r c.args.self.now _ (happens_in r.setup (event_value c.args.event) (journaled r)) h refl refl c.step.ensures.kit c.step.result
    (c.step.ensures.comes r.setup (journaled r) h.shows h.journals)
