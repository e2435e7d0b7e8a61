use Rattle.std.proofs.Common.{[], Ok, Err, refl, ap, subst, ◌++◌, ◌∙◌}
use Rattle.cluster_run.specs.Events as events
use Rattle.journaled_runs.specs.Journaling.{happens_in}
use Rattle.schedule_replay.specs.Events.{deliver, frame_at}
use Rattle.schedule_replay.specs.Replays.{along, journaled}
use Rattle.schedule_replay.specs.Roads.{behind_one, gift, handed, road_with}
use Rattle.schedule_replay.specs.Shown.{Goes}
use Rattle.schedule_replay.specs.declared.fault.Halt.TheVariants as halt
use Rattle.schedule_replay.proofs.RoadLaws.{behind_gift, carries_none, carries_these, no_gift}
use Rattle.schedule_replay.proofs.Stepping.{ends_not_begun, event_done, event_fails, stands_along}
use Rattle.schedule_replay.proofs.course.Course.deliver.Goals as goal

pub returns-in_err-frame-clause-does : goal.returns-in_err-frame-clause-does
returns-in_err-frame-clause-does g c =
    carries_none c.args.carried refl
    (λ r later h.
    let q = along (road_with c.args.carried later) r in
    ends_not_begun [] (deliver q c.args.message) q c.args.self.now (road_with c.args.carried later) c.from_residual.result halt.NoMemory
    c.from_residual.ensures.1 tt (stands_along c.args.self.now r (road_with c.args.carried later) h) refl)

pub returns-in_err-given-clause-does : goal.returns-in_err-given-clause-does
returns-in_err-given-clause-does g c =
    carries_none c.args.carried c.in_err-given.ensures.as_before
    (λ r later h.
    let q = along (road_with c.args.carried later) r in
    ends_not_begun [] (deliver q c.args.message) q c.args.self.now (road_with c.args.carried later) c.from_residual-in_err-given.result
    c.in_err-given.field-0.0 c.from_residual-in_err-given.ensures.1 c.in_err-given.ensures.only
    (stands_along c.args.self.now r (road_with c.args.carried later) h) refl)

pub returns-clause-does : goal.returns-clause-does
returns-clause-does g c =
    let given = c.in_ok-given.given.items in
    carries_these c.args.carried (gift c.args.carried given) c.in_ok-given.ensures.told (no_gift c.args.carried given)
    (λ r later h.
    let road = road_with c.args.carried (gift c.args.carried given ++ later) in
    let q = along road r in
    event_done q c.step.new.self
    (happens_in q.setup (events.Deliver c.args.message (handed road (frame_at r.state c.args.message))) (journaled q))
    (behind_one road) (road_with c.args.carried later) tt (behind_gift c.args.carried given later)
    (subst (λ bytes. Goes (happens_in q.setup (events.Deliver c.args.message bytes) (journaled q)) q c.step.new.self (Ok tt))
    (c.as_slice-given.ensures.value ∙ c.in_ok-given.ensures.given later ∙ ap (handed road) (c.in_ok-frame.ensures r h))
    (c.in_ok-step.ensures.goes q (stands_along c.args.self.now r road h))))

pub returns-in_err-step-clause-does : goal.returns-in_err-step-clause-does
returns-in_err-step-clause-does g c =
    let given = c.in_ok-given.given.items in
    carries_these c.args.carried (gift c.args.carried given) c.in_ok-given.ensures.told (no_gift c.args.carried given)
    (λ r later h.
    let road = road_with c.args.carried (gift c.args.carried given ++ later) in
    let q = along road r in
    let x = c.in_err-step.field-0.0 in
    event_fails q c.step.new.self
    (happens_in q.setup (events.Deliver c.args.message (handed road (frame_at r.state c.args.message))) (journaled q))
    (behind_one road) (road_with c.args.carried later) x c.from_residual-in_err-step.result c.from_residual-in_err-step.ensures.1
    (subst (λ bytes. Goes (happens_in q.setup (events.Deliver c.args.message bytes) (journaled q)) q c.step.new.self (Err x))
    (c.as_slice-given.ensures.value ∙ c.in_ok-given.ensures.given later ∙ ap (handed road) (c.in_ok-frame.ensures r h))
    (c.in_err-step.ensures.goes q (stands_along c.args.self.now r road h))))
