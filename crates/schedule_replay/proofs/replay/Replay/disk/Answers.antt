use Rattle.std.proofs.Common.{◌∙◌, subst, sym}
use Rattle.std.specs.Prelude.{option_map}
use Rattle.cluster_run.specs.Parts.{replica_self}
use Rattle.journaled_runs.specs.Shown.{Holds, pen_of}
use Rattle.run_journals.specs.Journals.{journal_at}
use Rattle.schedule_replay.specs.declared.course.Course.{Course}
use Rattle.schedule_replay.proofs.Keeping.{disk_told, keeps_so, seen_or_none}
use Rattle.schedule_replay.proofs.replay.Replay.disk.Goals as goal

pub returns-clause-there : goal.returns-clause-there
returns-clause-there c = λ o faulty r led stands.
    seen_or_none (λ disk. disk.now) c.disk.result
    ∙ disk_told (option_map (λ disk. disk.now) c.disk.result) (journal_at r.journals c.args.shard c.args.index)
    (c.disk.ensures (replica_self r.setup) (pen_of r.setup) r.journals
    (subst (λ (x : Course). Holds r.setup x.journals r.journals) (sym c.deref.ensures) stands.journals.holds))
    ∙ keeps_so c.owners_are_correct.ensures c.owners_stay.ensures c.owners_outlast_stops.ensures o faulty r led c.args.shard c.args.index
