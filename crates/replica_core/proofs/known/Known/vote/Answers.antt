use Rattle.std.proofs.Common.{sym, ap, subst, IsTrue}
use Rattle.std.specs.Prelude.{List}
use Rattle.basil_types.specs.Shown.{transaction_of}
use Rattle.frame_views.specs.Stored.{spells_certificate}
use Rattle.txn_table.specs.Entries.{EntryValue}
use Rattle.txn_table.specs.Shown.{entry_of}
use Rattle.txn_table.specs.Tables.{TableValue}
use Rattle.replica_core.specs.Whole.{is_signature, are_whole}
use Rattle.replica_core.proofs.Changing.{after_commit_vote, after_first_abort}
use Rattle.replica_core.proofs.known.Known.vote.Goals as goal

pub invariant_of-self : goal.invariant_of-self
invariant_of-self c = record {
  whole = subst (λ (l : List EntryValue). IsTrue (are_whole l)) (sym (ap (λ (t : TableValue). t.entries) c.set_vote.ensures))
      ((c.stored_ones_stay.ensures is_signature spells_certificate).votes c.args.self.now.table.entries c.args.place c.args.decision
      c.args.signature.items c.args.proof c.args.self.now.whole c.requires.signature);
}

pub invariant_of-self-in-Abort : goal.invariant_of-self-in-Abort
invariant_of-self-in-Abort c = record {
  whole = subst (λ (l : List EntryValue). IsTrue (are_whole l)) (sym (ap (λ (t : TableValue). t.entries) c.set_vote-in-Abort.ensures))
      ((c.stored_ones_stay.ensures is_signature spells_certificate).votes c.args.self.now.table.entries c.args.place c.args.decision
      c.args.signature.items c.args.proof c.args.self.now.whole c.requires.signature);
}

pub returns-in-Commit-clause-noted : goal.returns-in-Commit-clause-noted
returns-in-Commit-clause-noted c =
    after_commit_vote c.stores_follow_tables.ensures c.args.self.now.store c.set.new.self c.args.self.now.table.entries
    c.set_vote.new.self.entries c.args.place (entry_of c.entry-entry.result.now) (transaction_of c.view.result)
    c.len.ensures.held.distinct c.entry-entry.ensures.entry c.view.ensures c.args.decision c.args.signature.items c.args.proof
    c.in-Commit.is c.requires.undecided c.set.ensures.entered (ap (λ (t : TableValue). t.entries) c.set_vote.ensures)

pub returns-in-Abort-clause-noted : goal.returns-in-Abort-clause-noted
returns-in-Abort-clause-noted c =
    after_first_abort c.stores_follow_tables.ensures c.args.self.now.store c.args.self.now.table.entries
    c.set_vote-in-Abort.new.self.entries c.args.place (entry_of c.entry-entry.result.now) c.len.ensures.held.distinct
    c.entry-entry.ensures.entry c.requires.undecided c.args.decision c.args.signature.items c.args.proof c.in-Abort.is
    (c.requires.unvoted (entry_of c.entry-entry.result.now) c.entry-entry.ensures.entry)
    (ap (λ (t : TableValue). t.entries) c.set_vote-in-Abort.ensures)
