use Rattle.std.proofs.Common.{Err, refl, subst, sym, ◌++◌, ◌∙◌}
use Rattle.schedule_replay.specs.Events.{round_of}
use Rattle.schedule_replay.specs.Lines.{line_step}
use Rattle.schedule_replay.specs.Replays.{along}
use Rattle.schedule_replay.specs.Roads.{road_with}
use Rattle.schedule_replay.specs.Shown.{Did}
use Rattle.schedule_replay.proofs.Courses.{line_done, line_halted, line_refused}
use Rattle.schedule_replay.proofs.ReasonLaws.{lacks_none}
use Rattle.schedule_replay.proofs.RoadLaws.{carries_as, carries_none}
use Rattle.schedule_replay.proofs.Stepping.{stands_along}
use Rattle.schedule_replay.proofs.course.Course.line.Goals as goal

pub returns-in-Some-clause-did : goal.returns-in-Some-clause-did
returns-in-Some-clause-did g c =
    carries_none c.args.carried refl
    (λ r later h.
    let road = road_with c.args.carried later in
    let stands = stands_along c.args.self.now r road h in
    line_refused (along road r) c.args.line.now c.args.number c.in-Some.reason c.args.self.now road
    (sym (c.reason_of.ensures.exact (along road r) stands) ∙ c.in-Some.is) stands)

pub returns-in_ok-name-in-Ok-clause-did : goal.returns-in_ok-name-in-Ok-clause-did
returns-in_ok-name-in-Ok-clause-did g c =
    carries_as c.args.carried c.in-Ok.ensures.does
    (λ gave does r later h.
    let road = road_with c.args.carried (gave ++ later) in
    let none = sym (c.reason_of.ensures.exact (along road r) (stands_along c.args.self.now r road h)) ∙ c.in_default.is in
    line_done (along road r) c.args.line.now c.args.number c.does.new.self c.name.new.self (road_with c.args.carried later)
    none (does r later h (lacks_none (along road r) c.args.line.now none))
    c.in_ok-name-in-Ok.ensures.names c.name.ensures.world c.name.ensures.journals c.name.ensures.cluster)

pub returns-in-Err-clause-did : goal.returns-in-Err-clause-did
returns-in-Err-clause-did g c =
    carries_as c.args.carried c.in-Err.ensures.does
    (λ gave does r later h.
    let road = road_with c.args.carried (gave ++ later) in
    let there = road_with c.args.carried later in
    let none = sym (c.reason_of.ensures.exact (along road r) (stands_along c.args.self.now r road h)) ∙ c.in_default.is in
    subst (λ e. Did (round_of (along road r) c.args.line.now) (line_step (along road r) c.args.line.now c.args.number) (along road r)
    c.does.new.self (Err e) there)
    (sym c.fault_of.ensures)
    (line_halted (along road r) c.args.line.now c.args.number c.does.new.self there c.in-Err.halt
    none (does r later h (lacks_none (along road r) c.args.line.now none))))
