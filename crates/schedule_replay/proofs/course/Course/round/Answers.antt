use Rattle.std.proofs.Common.{arith, refl, rules, sym, ◌++◌, ◌∙◌}
use Rattle.schedule_replay.specs.Events.{deliver_all, waiting}
use Rattle.schedule_replay.specs.Replays.{along}
use Rattle.schedule_replay.specs.Roads.{road_with}
use Rattle.schedule_replay.proofs.Courses.{reached_all, sofar_on, sofar_stops}
use Rattle.schedule_replay.proofs.RoadLaws.{carries_as, carries_both, carries_none}
use Rattle.schedule_replay.proofs.Stepping.{handed_on, stands_along}
use Rattle.schedule_replay.proofs.course.Course.round.Goals as goal

pub loop-message-init : goal.loop-message-init
loop-message-init g c = record {
  going = search rules;
  names = refl;
  unused = λ h. refl;
  faults = refl;
  carries =
      carries_none c.args.carried refl
      (λ r later h.
      record {
        now = along (road_with c.args.carried later) r;
        comes = refl;
        stands = stands_along c.args.self.now r (road_with c.args.carried later) h;
        goes = refl;
      });
}

pub returns-in_err-deliver-clause-does : goal.returns-in_err-deliver-clause-does
returns-in_err-deliver-clause-does g c =
    let ms = c.deref-message-items.result.now in
    carries_both c.args.carried c.loop-message.invariant.carries c.in_err-deliver.ensures.does
    (λ before more so_far does r later h.
    let road = road_with c.args.carried ((before ++ more) ++ later) in
    handed_on (waiting r.state) (deliver_all (waiting r.state) (along road r)) (along road r) c.deliver.new.self
    (road_with c.args.carried later)
    c.from_residual-in_err-deliver.result c.in_err-deliver.field-0.0 c.from_residual-in_err-deliver.ensures.1
    (sofar_stops c.args.self.now c.loop-message.self c.deliver.new.self ms c.loop-message.message-index c.args.carried
    c.loop-message-test.true (λ q s. sym (c.deref-message-items.ensures.value ∙ c.in_ok-messages.ensures q s)) before more so_far
    c.in_err-deliver.field-0.0 does r later h))

pub loop-message-preserved : goal.loop-message-preserved
loop-message-preserved g c = record {
  going = search rules;
  names = c.in_ok-deliver.ensures.names ∙ c.loop-message.invariant.names;
  unused = λ h. c.in_ok-deliver.ensures.links.unused h ∙ c.loop-message.invariant.unused h;
  faults = c.in_ok-deliver.ensures.links.kept refl ∙ c.loop-message.invariant.faults;
  carries =
      carries_both c.args.carried c.loop-message.invariant.carries c.in_ok-deliver.ensures.does
      (λ before more so_far does.
      sofar_on c.args.self.now c.loop-message.self c.deliver.new.self c.deref-message-items.result.now c.loop-message.message-index
      c.args.carried c.loop-message-test.true (λ q s. sym (c.deref-message-items.ensures.value ∙ c.in_ok-messages.ensures q s)) before more
      so_far does);
}

pub returns-clause-does : goal.returns-clause-does
returns-clause-does g c =
    carries_as c.args.carried c.loop-message.invariant.carries
    (λ gave so_far r later h.
    reached_all (along (road_with c.args.carried (gave ++ later)) r) c.loop-message.self c.deref-message-items.result.now
    c.loop-message.message-index (road_with c.args.carried later) (omega (arith, c.loop-message-test.false))
    (sym (c.deref-message-items.ensures.value ∙ c.in_ok-messages.ensures r h)) (so_far r later h))
