use Rattle.schedule_replay.specs.Replays.{ReplayValue}
use Rattle.schedule_replay.specs.Shown.{Stands}
use Rattle.schedule_replay.specs.Telling.{FirstBelow}
use Rattle.schedule_replay.proofs.course.Course.places.Given as goal

abbrev pub invariant-loop-place : goal.invariant-loop-place
invariant-loop-place l = (r : ReplayValue) → Stands l.self r → FirstBelow l.places.entries r l.place
