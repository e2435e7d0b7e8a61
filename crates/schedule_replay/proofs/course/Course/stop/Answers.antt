use Rattle.std.proofs.Common.{refl}
use Rattle.journaled_runs.specs.Journaling.{stops_in}
use Rattle.run_journals.specs.Journals.{journal_at}
use Rattle.schedule_replay.proofs.Stepping.{has_one, stepped}
use Rattle.schedule_replay.specs.Replays.{journaled}
use Rattle.schedule_replay.proofs.course.Course.stop.Goals as goal

pub returns-clause-goes : goal.returns-clause-goes
returns-clause-goes c = λ r h has.
    stepped r c.args.self.now _
    (stops_in r.setup c.args.message c.args.shard c.args.replica c.args.stop c.args.given.now (journaled r)) h refl refl c.stop.ensures.kit
    c.stop.result
    (c.stop.ensures.comes r.setup (journaled r) h.shows h.journals (has_one (journal_at r.journals c.args.shard c.args.replica) has))
