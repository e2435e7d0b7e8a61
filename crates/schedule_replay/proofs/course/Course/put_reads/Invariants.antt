use Rattle.std.proofs.Common.{◌≡◌, ◌++◌}
use Rattle.schedule_replay.specs.Names.{keys_of}
use Rattle.schedule_replay.specs.Naming.{name_at}
use Rattle.schedule_replay.specs.Replays.{ReplayValue}
use Rattle.schedule_replay.specs.Reports.{read_lines}
use Rattle.schedule_replay.specs.Telling.{Tells}
use Rattle.schedule_replay.proofs.course.Course.put_reads.Given as goal

abbrev pub invariant-loop-key : goal.invariant-loop-key
invariant-loop-key l = (r : ReplayValue) → Tells l.self l.places.entries r →
    l.fn.out.items ++ read_lines r l.tx (name_at r.names l.tx) (keys_of r.names l.tx)
    ≡ l.out.items ++ read_lines r l.tx (name_at r.names l.tx) l.key-iterator
