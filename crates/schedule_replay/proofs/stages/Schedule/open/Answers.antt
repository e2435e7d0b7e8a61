use Rattle.std.proofs.Common.{Ok, [], ap, refl, sym, ◌∙◌}
use Rattle.schedule_replay.specs.Shown.{opening_of}
use Rattle.schedule_replay.specs.Stages.{Opens}
use Rattle.schedule_replay.specs.declared.replay.Opening.{Opening}
use Rattle.schedule_replay.proofs.StageLaws.{with_kit}
use Rattle.schedule_replay.proofs.stages.Schedule.open.Goals as goal

pub returns-clause-took : goal.returns-clause-took
returns-clause-took c =
    let o : Opening = record { cluster = c.args.cluster; clock = c.args.clock; keys = c.of.result; journal = c.args.journal } in
    λ road. (
      Opens (opening_of o) [] road,
      ap Ok (with_kit road o c.args.keys (sym c.of.ensures)),
      record { shown = (refl, sym (c.in_ok-faulty.ensures.ok ∙ c.new.ensures)); going = tt; goes = refl },
    )
