use Rattle.std.proofs.Common.{sym, ap, subst, IsTrue}
use Rattle.std.specs.Prelude.{List}
use Rattle.basil_types.specs.Shown.{transaction_of}
use Rattle.frame_views.specs.Stored.{spells_certificate}
use Rattle.txn_table.specs.Entries.{EntryValue}
use Rattle.txn_table.specs.Shown.{entry_of}
use Rattle.txn_table.specs.Tables.{TableValue}
use Rattle.replica_core.specs.Whole.{is_signature, are_whole}
use Rattle.replica_core.proofs.Changing.{after_ask}
use Rattle.replica_core.proofs.known.Known.wait.Goals as goal

pub invariant_of-self : goal.invariant_of-self
invariant_of-self c = record {
  whole = subst (λ (l : List EntryValue). IsTrue (are_whole l)) (sym (ap (λ (t : TableValue). t.entries) c.wait.ensures))
      ((c.stored_ones_stay.ensures is_signature spells_certificate).asks c.args.self.now.table.entries c.args.place c.args.asker
      c.args.self.now.whole);
}

pub returns-clause-noted : goal.returns-clause-noted
returns-clause-noted c =
    after_ask c.stores_follow_tables.ensures c.args.self.now.store c.set.new.self c.args.self.now.table.entries c.wait.new.self.entries
    c.args.place (entry_of c.entry-entry.result.now) (transaction_of c.view.result) c.len.ensures.held.distinct
    c.entry-entry.ensures.entry c.view.ensures c.args.asker c.requires.undecided c.requires.not_voted c.set.ensures.entered
    (ap (λ (t : TableValue). t.entries) c.wait.ensures)
