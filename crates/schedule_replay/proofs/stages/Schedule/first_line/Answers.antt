use Rattle.std.proofs.Common.{refl, ap}
use Rattle.schedule_replay.specs.Stages.{Begins, first_line}
use Rattle.schedule_replay.proofs.stages.Schedule.first_line.Goals as goal

pub returns-in-Skipped-clause-took : goal.returns-in-Skipped-clause-took
returns-in-Skipped-clause-took c = λ road.
    (Begins road, ap (first_line road c.args.number) c.in-Skipped.is, record { shown = tt; going = tt; goes = refl })
