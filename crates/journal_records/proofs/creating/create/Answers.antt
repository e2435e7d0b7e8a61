use Rattle.std.proofs.Common.{rules}
use Rattle.journal_records.proofs.OpeningLaws.{create-empty}
use Rattle.journal_records.proofs.creating.create.Goals as goal

pub returns-clause-empty : goal.returns-clause-empty
returns-clause-empty g c =
    search (rules, create-empty (g.D.Disk.told c.args.disk.now) (g.D.Disk.told c.write_at.new.self) c.in_ok-write_at.ensures.written)
