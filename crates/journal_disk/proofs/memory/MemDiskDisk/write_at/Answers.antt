use Rattle.std.proofs.Common.{OnErr, Some, ap, length, subst, sym}
use Rattle.journal_disk.specs.Foreseen.{MayHappen}
use Rattle.journal_disk.specs.Memory.{MemDiskState}
use Rattle.journal_disk.proofs.StopLaws.{happen_of, torn_of, written_of}
use Rattle.journal_disk.proofs.memory.MemDiskDisk.write_at.Goals as goal

pub returns-clause-written : goal.returns-clause-written
returns-clause-written c =
    written_of c.write-written.result c.args.at c.args.bytes.now c.args.self.now c.write-written.new.self c.self.inside.held
    (ap (λ (s : MemDiskState). s.disk) c.self.view_is) c.write-written.ensures.done

pub returns-clause-torn : goal.returns-clause-torn
returns-clause-torn c =
    torn_of c.write-written.result c.args.at (length c.args.bytes.now) c.args.self.now c.write-written.new.self c.self.inside.held
    (ap (λ (s : MemDiskState). s.disk) c.self.view_is) c.write-written.ensures.failed

pub returns-clause-stopped : goal.returns-clause-stopped
returns-clause-stopped c =
    let count = length c.args.bytes.now in
    let old = c.args.self.now in
    subst (λ (s : MemDiskState). OnErr c.write-written.result
    (MayHappen c.args.at count old.stops s.stops (Some old.disk) (Some s.disk)))
    (sym c.self.view_is) (happen_of c.write-written.result c.args.at count old c.write-written.new.self c.write-written.ensures.failed)
