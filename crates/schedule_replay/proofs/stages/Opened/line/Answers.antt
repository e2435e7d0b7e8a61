use Rattle.std.proofs.Common.{Ok, refl, sym, subst, ◌++◌}
use Rattle.schedule_replay.specs.Events.{round_of}
use Rattle.schedule_replay.specs.Lines.{line_step}
use Rattle.schedule_replay.specs.Replays.{first_replay}
use Rattle.schedule_replay.specs.Roads.{road_with}
use Rattle.schedule_replay.specs.Schedules.{Took}
use Rattle.schedule_replay.specs.Shown.{opening_of}
use Rattle.report_lines.specs.declared.fault.ReplayFault.TheVariants.{NoMemory}
use Rattle.schedule_replay.specs.declared.stages.Schedule.TheVariants.{Runs}
use Rattle.schedule_replay.proofs.RoadLaws.{carries_as, carries_none}
use Rattle.schedule_replay.proofs.StageLaws.{join_done, not_joined, other_line, run_fault, run_goes, skipped, took_fault}
use Rattle.schedule_replay.proofs.stages.Opened.line.Goals as goal

pub returns-in_err-join-in-Faulty-clause-took : goal.returns-in_err-join-in-Faulty-clause-took
returns-in_err-join-in-Faulty-clause-took g c =
    carries_none c.args.carried refl
    (λ later.
    took_fault _ c.in_err-join-in-Faulty.field-0.0 _ (road_with c.args.carried later) c.from_residual.ensures.1
    (not_joined c.args.self c.join.new.self (road_with c.args.carried later) c.args.number c.args.line.now c.in-Faulty.party
    c.in_err-join-in-Faulty.field-0.0 c.in-Faulty.is c.in_err-join-in-Faulty.ensures))

pub returns-in_ok-join-in-Faulty-clause-took : goal.returns-in_ok-join-in-Faulty-clause-took
returns-in_ok-join-in-Faulty-clause-took g c =
    carries_none c.args.carried refl
    (λ later.
    join_done c.args.self c.join.new.self (road_with c.args.carried later) c.args.number c.args.line.now c.in-Faulty.party _ c.in-Faulty.is
    c.in_ok-join-in-Faulty.ensures)

pub returns-in-Skipped-clause-took : goal.returns-in-Skipped-clause-took
returns-in-Skipped-clause-took g c =
    carries_none c.args.carried refl
    (λ later. skipped c.args.self (road_with c.args.carried later) c.args.number c.args.line.now c.in-Skipped.is)

pub returns-in_err-replay-in_default-clause-took : goal.returns-in_err-replay-in_default-clause-took
returns-in_err-replay-in_default-clause-took g c =
    carries_none c.args.carried refl
    (λ later.
    took_fault _ NoMemory _ (road_with c.args.carried later) c.from_residual-in_err-replay-in_default.ensures.1 tt)

pub returns-in_err-line-in_default-clause-took : goal.returns-in_err-line-in_default-clause-took
returns-in_err-line-in_default-clause-took g c =
    let o = opening_of c.args.self.opening in
    let faulty = c.args.self.faulty.value in
    carries_as c.args.carried c.in_err-line-in_default.ensures.did
    (λ gave did later.
    let here = road_with c.args.carried (gave ++ later) in
    let there = road_with c.args.carried later in
    let r = first_replay o faulty here in
    subst (λ x. Took c.from_residual-in_err-line-in_default.result x there)
    (sym (other_line o faulty here c.args.number c.args.line.now c.in_default.not-Skipped c.in_default.not-Faulty))
    (took_fault _ c.in_err-line-in_default.field-0.0 _ there c.from_residual-in_err-line-in_default.ensures.1
    (run_fault (round_of r c.args.line.now) r c.line.new.self.course.value (line_step r c.args.line.now c.args.number) there
    c.in_err-line-in_default.field-0.0 (did r later (c.in_ok-replay-in_default.ensures.stands here)))))

pub returns-in_ok-line-in_default-clause-took : goal.returns-in_ok-line-in_default-clause-took
returns-in_ok-line-in_default-clause-took g c =
    let o = opening_of c.args.self.opening in
    let faulty = c.args.self.faulty.value in
    carries_as c.args.carried c.in_ok-line-in_default.ensures.did
    (λ gave did later.
    let here = road_with c.args.carried (gave ++ later) in
    let there = road_with c.args.carried later in
    let r = first_replay o faulty here in
    subst (λ x. Took (Ok (Runs c.line.new.self)) x there)
    (sym (other_line o faulty here c.args.number c.args.line.now c.in_default.not-Skipped c.in_default.not-Faulty))
    (run_goes r c.line.new.self (line_step r c.args.line.now c.args.number) there _
    (did r later (c.in_ok-replay-in_default.ensures.stands here)) c.in_ok-line-in_default.ensures.ended))
