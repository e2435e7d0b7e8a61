use Rattle.std.proofs.Common.{◌≡◌, length, rules}
use Rattle.journal_records.proofs.FoundLaws.{told-count}
use Rattle.journal_records.proofs.found.count_at.Goals as goal

pub returns-clause-told : goal.returns-clause-told
returns-clause-told g c =
    let long : length c.read_at.new.buf ≡ 4 = search rules in
    told-count c.args.at c.in_ok-read.read c.read_at.new.buf (g.D.Disk.told c.args.disk.now) c.counted.result long
    c.in_ok-read.ensures.bytes c.counted.ensures.whole c.counted.ensures.number c.counted.ensures.none
