use Rattle.std.proofs.Common.{◌≤◌}
use Rattle.schedule_replay.specs.Replays.{ReplayValue}
use Rattle.schedule_replay.specs.Shown.{Stands}
use Rattle.schedule_replay.proofs.Counting.{Counted}
use Rattle.schedule_replay.proofs.course.Course.total_of.Given as goal

abbrev pub invariant-loop-place : goal.invariant-loop-place
invariant-loop-place l = record {
  few : l.total ≤ l.place;
  counted : (r : ReplayValue) → Stands l.self r → Counted l.fate r l.place l.total;
}
