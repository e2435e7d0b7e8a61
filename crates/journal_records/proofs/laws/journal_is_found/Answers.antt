use Rattle.journal_records.proofs.FoundLaws.{journal-found}
use Rattle.journal_records.proofs.laws.journal_is_found.Goals as goal

pub returns : goal.returns
returns c = journal-found
