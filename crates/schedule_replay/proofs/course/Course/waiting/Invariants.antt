use Rattle.std.proofs.Common.{◌≡◌, ◌++◌, ◌^◌}
use Rattle.std.specs.Prelude.{◌-◌}
use Rattle.std.specs.Option.{option_map_or}
use Rattle.schedule_replay.proofs.Rounds.{from_next}
use Rattle.schedule_replay.specs.Events.{waiting}
use Rattle.schedule_replay.specs.Replays.{ReplayValue}
use Rattle.schedule_replay.specs.Shown.{Stands}
use Rattle.schedule_replay.proofs.course.Course.waiting.Given as goal

abbrev pub invariant-loop-next : goal.invariant-loop-next
invariant-loop-next l =
    (r : ReplayValue) → Stands l.self r → l.messages.items ++ from_next l.next r.state.pool ≡ waiting r.state

abbrev pub decreases-loop-next : goal.decreases-loop-next
decreases-loop-next l = option_map_or (λ next. 2 ^ 64 - next) l.next 0
