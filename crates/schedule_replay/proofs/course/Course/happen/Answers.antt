use Rattle.std.proofs.Common.{refl, ◌++◌, ◌∙◌}
use Rattle.schedule_replay.specs.Events.{gifts, line_does, round_of}
use Rattle.schedule_replay.specs.Replays.{along}
use Rattle.schedule_replay.specs.Roads.{road_with}
use Rattle.schedule_replay.proofs.RoadLaws.{carries_none, carries_these}
use Rattle.schedule_replay.proofs.Stepping.{behind_gifts, ends_not_begun, line_done, line_failed, no_gifts, stands_along}
use Rattle.schedule_replay.proofs.course.Course.happen.Goals as goal

pub returns-in_err-given-clause-does : goal.returns-in_err-given-clause-does
returns-in_err-given-clause-does g c =
    carries_none c.args.carried c.in_err-given.ensures.as_before
    (λ r later h has.
    let q = along (road_with c.args.carried later) r in
    ends_not_begun (round_of q c.args.line.now) (line_does q c.args.line.now) q c.args.self.now (road_with c.args.carried later)
    c.from_residual.result c.in_err-given.field-0.0 c.from_residual.ensures.1 c.in_err-given.ensures.only
    (stands_along c.args.self.now r (road_with c.args.carried later) h) refl)

pub returns-in_err-one-clause-does : goal.returns-in_err-one-clause-does
returns-in_err-one-clause-does g c =
    let given = c.in_ok-given.given.items in
    let line = c.args.line.now in
    carries_these c.args.carried (gifts c.args.carried line given) c.in_ok-given.ensures.told (no_gifts c.args.carried line given)
    (λ r later h has.
    let road = road_with c.args.carried (gifts c.args.carried line given ++ later) in
    let q = along road r in
    line_failed q line c.one.new.self c.deref.result.now (road_with c.args.carried later) c.requires.single
    (c.deref.ensures.value ∙ c.in_ok-given.ensures.given r later h) (behind_gifts c.args.carried line given later)
    c.in_err-one.field-0.0 c.from_residual-in_err-one.result c.from_residual-in_err-one.ensures.1
    (c.in_err-one.ensures.goes q (stands_along c.args.self.now r road h) has))

pub returns-clause-does : goal.returns-clause-does
returns-clause-does g c =
    let given = c.in_ok-given.given.items in
    let line = c.args.line.now in
    carries_these c.args.carried (gifts c.args.carried line given) c.in_ok-given.ensures.told (no_gifts c.args.carried line given)
    (λ r later h has.
    let road = road_with c.args.carried (gifts c.args.carried line given ++ later) in
    let q = along road r in
    line_done q line c.one.new.self c.deref.result.now (road_with c.args.carried later) c.requires.single
    (c.deref.ensures.value ∙ c.in_ok-given.ensures.given r later h) (behind_gifts c.args.carried line given later)
    (c.in_ok-one.ensures.goes q (stands_along c.args.self.now r road h) has))
