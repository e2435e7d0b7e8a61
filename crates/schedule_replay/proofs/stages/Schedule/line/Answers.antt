use Rattle.std.proofs.Common.{refl, ◌++◌}
use Rattle.schedule_replay.specs.Roads.{road_with}
use Rattle.schedule_replay.specs.Shown.{is_of_link}
use Rattle.schedule_replay.specs.Stages.{on_road}
use Rattle.schedule_replay.proofs.RoadLaws.{carries_as, carries_none, unused_by}
use Rattle.schedule_replay.proofs.StageLaws.{at_road, is_numbered, on_ok, refused_took, value_took}
use Rattle.schedule_replay.proofs.stages.Schedule.line.Goals as goal

pub returns-in-Ok-clause-took : goal.returns-in-Ok-clause-took
returns-in-Ok-clause-took g c =
    carries_as c.args.carried c.value.ensures.took
    (λ gave took stage later at.
    value_took (on_road (road_with c.args.carried (gave ++ later)) stage) c.args.line.now c.args.number c.in-Ok.value c.value.result
    (road_with c.args.carried later) c.in-Ok.ensures.value (took stage later at))

pub returns-in-Err-clause-took : goal.returns-in-Err-clause-took
returns-in-Err-clause-took g c =
    carries_none c.args.carried refl
    (λ stage later at.
    let here = on_road (road_with c.args.carried later) stage in
    refused_took here c.args.line.now c.args.number c.in-Err.fault c.fault_of.result
    (road_with c.args.carried later) c.in-Err.ensures.refused
    (c.fault_of.ensures.fault here (at_road c.args.self stage (road_with c.args.carried later) at)))

pub returns-in-Ok-clause-lines : goal.returns-in-Ok-clause-lines
returns-in-Ok-clause-lines g c =
    on_ok c.value.result (is_numbered c.grammar_is_read.ensures c.args.line.now c.args.number c.in-Ok.value c.in-Ok.ensures.value)

pub returns-in-Err-clause-links : goal.returns-in-Err-clause-links
returns-in-Err-clause-links g c =
    unused_by c.args.carried c.args.links.now (g.L.Links.faults c.args.links.now) (is_of_link c.fault_of.result) c.fault_of.ensures.unlinked
