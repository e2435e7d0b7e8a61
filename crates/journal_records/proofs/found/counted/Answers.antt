use Rattle.std.proofs.Common.{rules}
use Rattle.journal_records.proofs.found.counted.Goals as goal

pub returns-else-count-gt-GREATEST_ENTRY-clause-bounds : goal.returns-else-count-gt-GREATEST_ENTRY-clause-bounds
returns-else-count-gt-GREATEST_ENTRY-clause-bounds c = search rules
