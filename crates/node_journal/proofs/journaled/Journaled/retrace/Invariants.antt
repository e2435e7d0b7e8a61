-- It took the frames of the records at the front, and goes on.
use Rattle.std.proofs.Common.{◌≡◌, ◌≤◌, ◌-◌, Some, length}
use Rattle.journal_disk.specs.Disk.{DiskState}
use Rattle.journal_records.specs.declared.limits.TheConstants.{JOURNAL_LIMIT, GREATEST_ENTRY}
use Rattle.node_steps.specs.Pens.{PenValue}
use Rattle.replica_core.specs.Shown.{own}
use Rattle.node_journal.specs.Retracing.{StandsFront}
use Rattle.node_journal.proofs.journaled.Journaled.retrace.Given as goal

abbrev pub invariant-loop-fault : goal.invariant-loop-fault
invariant-loop-fault g l =
    record {
      same_told : g.D.Disk.told l.self.disk ≡ g.D.Disk.told l.initial.self.disk;
      same_stops : g.D.Disk.stops l.self.disk ≡ g.D.Disk.stops l.initial.self.disk;
      same_own : own l.self.replica ≡ own l.initial.self.replica;
      same_faults : g.D.Disk.faults l.self.disk ≡ g.D.Disk.faults l.initial.self.disk;
      same_closed : l.self.closed ≡ l.initial.self.closed;
      room : GREATEST_ENTRY ≤ length l.buffer;
      fronts : (s : DiskState) (begun : PenValue) → g.D.Disk.told l.initial.self.disk ≡ Some s →
          StandsFront l.initial.self begun s.contents → StandsFront l.self begun s.contents;
    }

abbrev pub decreases-loop-fault : goal.decreases-loop-fault
decreases-loop-fault g l = JOURNAL_LIMIT - l.self.end
