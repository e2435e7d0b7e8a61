use Rattle.node_journal.proofs.EntryLaws.{entries-read}
use Rattle.node_journal.proofs.laws.entries_are_read.Goals as goal

pub returns : goal.returns
returns c = entries-read
