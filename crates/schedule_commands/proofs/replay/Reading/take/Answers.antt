use Rattle.std.proofs.Common.{rules, ◌++◌, refl, ◌∙◌}
use Rattle.schedule_replay.proofs.RoadLaws.{carries_both, carries_none}
use Rattle.schedule_commands.specs.Behind.{IsCut}
use Rattle.schedule_commands.proofs.Behind.{begun_piece, held_on, passed_on, refused_at}
use Rattle.schedule_commands.proofs.replay.Reading.take.Goals as goal

pub lines-init : goal.lines-init
lines-init g c = record {
  reads = carries_none c.args.carried refl (begun_piece c.args.carried c.args.self c.args.piece.now);
  unused = λ h. refl;
  faults = refl;
}

pub end_line-requires-clause-on : goal.end_line-requires-clause-on
end_line-requires-clause-on g c =
    let m = c.lines.invariant.reads.should c.requires.0 c.requires.1 c.requires.2 in
    (c.requires.0 ++ c.lines.invariant.reads.gave, m.read, m.behind)

pub hold-requires-clause-on : goal.hold-requires-clause-on
hold-requires-clause-on g c =
    let m = c.lines.invariant.reads.should c.requires.0 c.requires.1 c.requires.2 in
    (c.requires.0 ++ c.lines.invariant.reads.gave, m.read, m.behind)

pub returns-in-Err-clause-reads : goal.returns-in-Err-clause-reads
returns-in-Err-clause-reads g c =
    let cut : IsCut c.lines.rest.now c.in-Some.line.now c.in-Some.more.now = search rules in
    carries_both c.args.carried c.lines.invariant.reads c.in-Err.ensures.reads
    (λ before more passed reads.
    refused_at c.args.carried c.args.self
    c.lines.reading c.args.piece.now c.lines.rest.now c.in-Some.line.now c.in-Some.more.now before more
    passed cut.is _ reads c.in-Err.fault refl)

pub lines-preserved : goal.lines-preserved
lines-preserved g c =
    let cut : IsCut c.lines.rest.now c.in-Some.line.now c.in-Some.more.now = search rules in
    record {
      reads =
          carries_both c.args.carried c.lines.invariant.reads c.in-Ok.ensures.reads
          (λ before more passed reads.
          passed_on c.args.carried c.args.self
          c.lines.reading c.args.piece.now c.lines.rest.now c.in-Some.line.now c.in-Some.more.now before
          more passed cut.is _ reads c.in-Ok.next refl);
      unused = λ h. c.in-Ok.ensures.links.unused h ∙ c.lines.invariant.unused h;
      faults = c.in-Ok.ensures.links.kept refl ∙ c.lines.invariant.faults;
    }

pub returns-clause-reads : goal.returns-clause-reads
returns-clause-reads g c =
    carries_both c.args.carried c.lines.invariant.reads c.hold.ensures.reads
    (λ before more passed reads.
    held_on c.args.carried c.args.self c.lines.reading c.args.piece.now c.lines.rest.now before more passed c.hold.result reads)
