use Rattle.std.proofs.Common.{ℕ, ◌+◌, Bool, Option, Some, rules, drop, subst}
use Rattle.journal_disk.specs.Disk.{DiskState, OnTold}
use Rattle.journal_records.specs.Found.{TellsBytes, TellsCount}
use Rattle.journal_records.specs.Journal.{IsCount}
use Rattle.journal_records.proofs.FoundLaws.{behind-cut, behind-no_count, behind-whole}
use Rattle.journal_records.proofs.found.behind.Goals as goal

pub returns-in-None-clause-told : goal.returns-in-None-clause-told
returns-in-None-clause-told g c =
    behind-no_count c.args.at (g.D.Disk.told c.args.disk.now)
    (subst (λ (o : Option ℕ). OnTold (λ s. TellsCount o (drop (c.args.at + 1) s.contents)) (g.D.Disk.told c.args.disk.now))
    c.in-None.is c.in_ok-count.ensures.told)

pub returns-then-branch-clause-told : goal.returns-then-branch-clause-told
returns-then-branch-clause-told g c =
    let counts : IsCount c.in-Some.count = search rules in
    let number = subst
    (λ (o : Option ℕ). OnTold (λ s. TellsCount o (drop (c.args.at + 1) s.contents)) (g.D.Disk.told c.args.disk.now))
    c.in-Some.is c.in_ok-count.ensures.told in
    let bytes = subst
    (λ (b : Bool). OnTold (λ s. TellsBytes b c.in-Some.count c.fill.new.buffer (drop (c.args.at + 5) s.contents))
    (g.D.Disk.told c.count_at.new.disk)) c.if-branch.true c.in_ok-fill.ensures.told in
    let whole = subst
    (λ (t : Option DiskState). OnTold
    (λ s. TellsBytes Rattle.std.proofs.Common.true c.in-Some.count c.fill.new.buffer (drop (c.args.at + 5) s.contents)) t)
    c.count_at.ensures.as_before bytes in
    behind-whole c.args.at c.in-Some.count c.fill.new.buffer (g.D.Disk.told c.args.disk.now) counts number whole

pub returns-else-branch-clause-told : goal.returns-else-branch-clause-told
returns-else-branch-clause-told g c =
    let counts : IsCount c.in-Some.count = search rules in
    let number = subst
    (λ (o : Option ℕ). OnTold (λ s. TellsCount o (drop (c.args.at + 1) s.contents)) (g.D.Disk.told c.args.disk.now))
    c.in-Some.is c.in_ok-count.ensures.told in
    let bytes = subst
    (λ (b : Bool). OnTold (λ s. TellsBytes b c.in-Some.count c.fill.new.buffer (drop (c.args.at + 5) s.contents))
    (g.D.Disk.told c.count_at.new.disk)) c.if-branch.false c.in_ok-fill.ensures.told in
    let cut = subst
    (λ (t : Option DiskState). OnTold
    (λ s. TellsBytes Rattle.std.proofs.Common.false c.in-Some.count c.fill.new.buffer (drop (c.args.at + 5) s.contents)) t)
    c.count_at.ensures.as_before bytes in
    behind-cut c.args.at c.in-Some.count c.fill.new.buffer (g.D.Disk.told c.args.disk.now) counts number cut
