use Rattle.std.proofs.Common.{◌++◌, subst, sym}
use Rattle.schedule_replay.specs.Events.{line_does, round_of}
use Rattle.schedule_replay.specs.Replays.{along}
use Rattle.schedule_replay.specs.Roads.{road_with}
use Rattle.schedule_replay.specs.Shown.{Does}
use Rattle.schedule_replay.proofs.RoadLaws.{carries_as}
use Rattle.schedule_replay.proofs.course.Course.does.Goals as goal

pub returns-in-Round-clause-does : goal.returns-in-Round-clause-does
returns-in-Round-clause-does g c =
    carries_as c.args.carried c.round.ensures.does
    (λ gave does r later h has.
    let q = along (road_with c.args.carried (gave ++ later)) r in
    subst (λ line. Does (round_of q line) (line_does q line) q c.round.new.self c.round.result (road_with c.args.carried later))
    (sym c.in-Round.is) (does r later h))
