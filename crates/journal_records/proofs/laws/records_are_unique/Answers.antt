use Rattle.journal_records.proofs.OpeningLaws.{records-unique}
use Rattle.journal_records.proofs.laws.records_are_unique.Goals as goal

pub returns : goal.returns
returns c = records-unique
