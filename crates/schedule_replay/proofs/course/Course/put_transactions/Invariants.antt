use Rattle.std.proofs.Common.{◌≡◌, ◌++◌, drop}
use Rattle.schedule_replay.specs.Replays.{ReplayValue}
use Rattle.schedule_replay.specs.Reports.{tx_lines}
use Rattle.schedule_replay.specs.Telling.{Tells}
use Rattle.schedule_replay.proofs.course.Course.put_transactions.Given as goal

abbrev pub invariant-loop-place : goal.invariant-loop-place
invariant-loop-place l = (r : ReplayValue) → Tells l.self l.places.entries r →
    l.fn.out.items ++ tx_lines r 0 r.names.begun ≡ l.out.items ++ tx_lines r l.place (drop l.place r.names.begun)
