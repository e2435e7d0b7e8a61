use Rattle.std.proofs.Common.{◌≡◌, ℕ, Bool, true, List, [], ◌∷◌, Option, Some, None, sym, ap, subst, ◌∙◌}
use Rattle.std.specs.Prelude.{◌||◌, ◌&&◌}
use Rattle.std.specs.Iterator.{YieldsFirstBy}
use Rattle.std.specs.List.{list_any}
use Rattle.basil_types.specs.declared.transaction.lists.WritesIter.{WritesIter}
use Rattle.basil_types.specs.declared.transaction.parts.ReadPart.{ReadPart}
use Rattle.basil_types.specs.declared.transaction.parts.WriteItem.{WriteItem}
use Rattle.basil_types.specs.declared.transaction.parts.WritePart.{WritePart}
use Rattle.basil_types.specs.declared.version.Version.{Version}
use Rattle.basil_types.specs.Lists.{AreItems}
use Rattle.basil_types.specs.Shown.{transaction_of, read_of, write_of, reads_left, writes_left}
use Rattle.basil_types.specs.Texts.{key_below}
use Rattle.basil_types.specs.Transaction.{TransactionValue, FitsRead, FitsWrite, key_of_read, key_of_write, version_of, writes_key}
use Rattle.basil_types.specs.Version.{is_between}
use Rattle.txn_meta.specs.Conflicts.{crosses}
use Rattle.txn_meta.specs.Merging.{ahead, from_key, begins_at}
use Rattle.txn_meta.proofs.MergeLaws.{has, one_read, told_on, still_ascend}
use Rattle.txn_meta.proofs.conflicts.is_crossed.Goals as goal

-- what an iterator gave first, and what it has left
begun : (w : Option WriteItem) (old new : WritesIter) → YieldsFirstBy write_of writes_left old w new → ahead w new ≡ writes_left old
begun None old new h = sym h.0
begun (Some w) old new h = sym h

-- the test of one read is that of the definition
tested : (t u : TransactionValue) (own written : Version) (item : ReadPart) (ws : List WritePart) (r : Bool)
    → own ≡ version_of t → written ≡ version_of u
    → r ≡ (begins_at item.key ws && is_between item.version written own)
    → r ≡ (begins_at item.key ws && is_between item.version (version_of u) (version_of t))
tested t u own written item ws r e f h =
    h ∙ ap (λ v. begins_at item.key ws && is_between item.version v own) f ∙ ap
    (λ v. begins_at item.key ws && is_between item.version (version_of u) v) e

-- one turn, over plain values
module _ (t u : TransactionValue) (own written : Version) (old : List ReadPart) (item : ReadPart) (more : List ReadPart)
    (ws new : List WritePart) (r : Bool)
    (mine : own ≡ version_of t) (theirs : written ≡ version_of u) (steps : old ≡ item ∷ more) (passed : new ≡ from_key item.key ws)
    (met : r ≡ (begins_at item.key new && is_between item.version written own))
    (writes : (floor : List ℕ) × AreItems (FitsWrite u.format) key_of_write floor ws)
    (reads : (before : List ℕ) × AreItems FitsRead key_of_read before old ×
    ((key : List ℕ) → key_below before key ≡ true → has key ws ≡ writes_key u key)) where
  ascend : AreItems FitsRead key_of_read reads.0 (item ∷ more)
  ascend = subst (AreItems FitsRead key_of_read reads.0) steps reads.1

  turn_is : r ≡ crosses u t item
  turn_is =
      tested t u own written item new r mine theirs met
      ∙ ap (λ x. begins_at item.key x && is_between item.version (version_of u) (version_of t)) passed
      ∙ one_read t u reads.0 writes.0 item more ws ascend writes.1 reads.2

  any_is : list_any (crosses u t) old ≡ (r || list_any (crosses u t) more)
  any_is = ap (list_any (crosses u t)) steps ∙ ap (λ b. b || list_any (crosses u t) more) (sym turn_is)

  writes_on : (floor : List ℕ) × AreItems (FitsWrite u.format) key_of_write floor new
  writes_on = let o =
      still_ascend u.format writes.0 item.key ws writes.1 in (o.0, subst (AreItems (FitsWrite u.format) key_of_write o.0) (sym passed) o.1)

  reads_on : (before : List ℕ) × AreItems FitsRead key_of_read before more ×
      ((key : List ℕ) → key_below before key ≡ true → has key new ≡ writes_key u key)
  reads_on = (item.key, ascend.1, λ key h. ap (has key) passed ∙ told_on t u reads.0 writes.0 item more ws ascend writes.1 reads.2 key h)

pub loop-item-init : goal.loop-item-init
loop-item-init c =
    let u = transaction_of c.args.writer in
    let all : ahead c.next-next.result c.next-next.new.self ≡ u.writes =
    begun c.next-next.result c.writes-writes.result c.next-next.new.self c.next-next.ensures.steps ∙ c.writes-writes.ensures.all in
    let reads : reads_left c.into_iter-item-iterator.result ≡ (transaction_of c.args.reader).reads =
    ap reads_left c.into_iter-item-iterator.ensures.into_iter_gives ∙ c.reads-item-items.ensures.all in
    record {
      found = ap (list_any (crosses u (transaction_of c.args.reader))) (sym reads);
      writes = ([], subst (AreItems (FitsWrite u.format) key_of_write []) (sym all) (c.writes-writes.ensures.in_range).writes);
      reads = (
        [],
        subst (AreItems FitsRead key_of_read []) (sym reads) (c.reads-item-items.ensures.in_range).reads,
        λ key h. ap
            (has key) all,
      );
    }

pub returns-then-meets : goal.returns-then-meets
returns-then-meets c =
    let t = transaction_of c.args.reader in
    let u = transaction_of c.args.writer in
    let old = reads_left c.loop-item.item-iterator in
    let more = reads_left c.next.new.self in
    let ws = ahead c.loop-item.next c.loop-item.writes in
    let new = ahead c.passed-next.result c.passed-next.new.writes in
    sym (c.loop-item.invariant.found ∙ any_is t u c.args.own.now c.args.written.now old
    (read_of c.in-Some.item) more ws new c.meets.result c.requires.own c.requires.written c.in-Some.ensures.steps c.passed-next.ensures
    (c.meets.ensures c.passed-next.new.writes) c.loop-item.invariant.writes c.loop-item.invariant.reads ∙ ap
    (λ b. b || list_any (crosses u t) more) c.if-meets.true)

pub loop-item-preserved : goal.loop-item-preserved
loop-item-preserved c =
    let t = transaction_of c.args.reader in
    let u = transaction_of c.args.writer in
    let old = reads_left c.loop-item.item-iterator in
    let more = reads_left c.next.new.self in
    let ws = ahead c.loop-item.next c.loop-item.writes in
    let new = ahead c.passed-next.result c.passed-next.new.writes in
    record {
      found = c.loop-item.invariant.found ∙ any_is t u c.args.own.now c.args.written.now old
          (read_of c.in-Some.item) more ws new c.meets.result c.requires.own c.requires.written c.in-Some.ensures.steps
          c.passed-next.ensures (c.meets.ensures c.passed-next.new.writes) c.loop-item.invariant.writes c.loop-item.invariant.reads
          ∙ ap (λ b. b || list_any (crosses u t) more) c.if-meets.false;
      writes = writes_on t u c.args.own.now c.args.written.now old
          (read_of c.in-Some.item) more ws new c.meets.result c.requires.own c.requires.written c.in-Some.ensures.steps
          c.passed-next.ensures (c.meets.ensures c.passed-next.new.writes) c.loop-item.invariant.writes c.loop-item.invariant.reads;
      reads = reads_on t u c.args.own.now c.args.written.now old
          (read_of c.in-Some.item) more ws new c.meets.result c.requires.own c.requires.written c.in-Some.ensures.steps
          c.passed-next.ensures (c.meets.ensures c.passed-next.new.writes) c.loop-item.invariant.writes c.loop-item.invariant.reads;
    }

pub returns : goal.returns
returns c =
    sym (c.loop-item.invariant.found ∙ ap
    (list_any (crosses (transaction_of c.args.writer) (transaction_of c.args.reader))) c.in-None.ensures.steps.0)
