use Rattle.schedule_replay.proofs.RoadLaws.{unused_by}
use Rattle.command_input.specs.Commands.{is_carried}
use Rattle.command_input.specs.Inputs.{is_link_fail}
use Rattle.basil_cli.proofs.Arguments.{ended_alone, runs_not, soon_alone, through_alone}
use Rattle.basil_cli.proofs.run.ending_for.Goals as goal

pub ending_alone-requires-clause-other : goal.ending_alone-requires-clause-other
ending_alone-requires-clause-other g c = runs_not c.args.command.now c.in_default.not-Replay

pub returns-in_default : goal.returns-in_default
returns-in_default g c =
    let a = g.L.Links.told c.args.links.now in
    let left = g.S.Source.left c.args.source.now in
    let new = g.S.Source.left c.ending_alone.new.source in
    let e = c.ending_alone.ensures in
    record {
      outcome = ended_alone c.args.command.now a left c.ending_alone.result e.outcome;
      alone = e.alone;
      unread = e.unread;
      through = λ h. through_alone c.args.command.now a left new c.ending_alone.result (e.through h);
      soon = soon_alone c.args.command.now a left new e.soon;
      failed = e.failed;
      told = e.told;
      links =
          unused_by (is_carried c.args.command.now) c.args.links.now
          (g.L.Links.faults c.args.links.now) (is_link_fail c.ending_alone.result)
          e.unlinked;
    }
