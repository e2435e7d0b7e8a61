use Rattle.std.proofs.Common.{Ok, refl, subst, ◌++◌}
use Rattle.schedule_replay.specs.Events.{round_of}
use Rattle.schedule_replay.specs.Lines.{line_step}
use Rattle.schedule_replay.specs.Replays.{along}
use Rattle.schedule_replay.specs.Roads.{road_with}
use Rattle.schedule_replay.specs.Schedules.{IsAt}
use Rattle.schedule_replay.specs.Shown.{is_link_fault}
use Rattle.schedule_replay.specs.declared.stages.Schedule.TheVariants.{Runs}
use Rattle.schedule_replay.proofs.RoadLaws.{carries_as, carries_none, unused_by}
use Rattle.schedule_replay.proofs.StageLaws.{at_begins, at_opens, at_runs, run_fault, run_goes, took_fault}
use Rattle.schedule_replay.proofs.stages.Schedule.value.Goals as goal

pub returns-in-Begins-clause-took : goal.returns-in-Begins-clause-took
returns-in-Begins-clause-took g c =
    carries_none c.args.carried refl
    (λ stage later at.
    let road = road_with c.args.carried later in
    at_begins stage c.first_line.result c.args.line.now c.args.number road road (subst (λ s. IsAt s stage) c.in-Begins.is at)
    (c.first_line.ensures.took road))

pub returns-in-Begins-clause-links : goal.returns-in-Begins-clause-links
returns-in-Begins-clause-links g c =
    unused_by c.args.carried c.args.links.now (g.L.Links.faults c.args.links.now) (is_link_fault c.first_line.result)
    c.first_line.ensures.unlinked

pub returns-in-Opens-clause-took : goal.returns-in-Opens-clause-took
returns-in-Opens-clause-took g c =
    carries_as c.args.carried c.line.ensures.took
    (λ gave took stage later at.
    at_opens stage c.in-Opens.opened c.line.result c.args.line.now c.args.number (road_with c.args.carried (gave ++ later))
    (road_with c.args.carried later) (subst (λ s. IsAt s stage) c.in-Opens.is at) (took later))

pub returns-in_err-line-in-Runs-clause-took : goal.returns-in_err-line-in-Runs-clause-took
returns-in_err-line-in-Runs-clause-took g c =
    carries_as c.args.carried c.in_err-line-in-Runs.ensures.did
    (λ gave did stage later at.
    let here = road_with c.args.carried (gave ++ later) in
    let there = road_with c.args.carried later in
    at_runs stage c.in-Runs.replay c.from_residual.result c.args.line.now c.args.number here there
    (subst (λ s. IsAt s stage) c.in-Runs.is at)
    (λ r stands.
    took_fault c.from_residual.result c.in_err-line-in-Runs.field-0.0 _ there c.from_residual.ensures.1
    (run_fault (round_of (along here r) c.args.line.now) (along here r) c.line-in-Runs.new.self.course.value
    (line_step (along here r) c.args.line.now c.args.number) there
    c.in_err-line-in-Runs.field-0.0 (did r later stands))))

pub returns-in_ok-line-in-Runs-clause-took : goal.returns-in_ok-line-in-Runs-clause-took
returns-in_ok-line-in-Runs-clause-took g c =
    carries_as c.args.carried c.in_ok-line-in-Runs.ensures.did
    (λ gave did stage later at.
    let here = road_with c.args.carried (gave ++ later) in
    let there = road_with c.args.carried later in
    at_runs stage c.in-Runs.replay (Ok (Runs c.line-in-Runs.new.self)) c.args.line.now c.args.number here there
    (subst (λ s. IsAt s stage) c.in-Runs.is at)
    (λ r stands.
    run_goes (along here r) c.line-in-Runs.new.self (line_step (along here r) c.args.line.now c.args.number) there _
    (did r later stands) c.in_ok-line-in-Runs.ensures.ended))
