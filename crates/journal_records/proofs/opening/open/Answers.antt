use Rattle.std.proofs.Common.{rules}
use Rattle.journal_records.proofs.OpeningLaws.{open-settles, open-loses_none}
use Rattle.journal_records.proofs.opening.open.Goals as goal

pub returns-clause-settles : goal.returns-clause-settles
returns-clause-settles g c = search (rules, open-settles)

pub returns-clause-loses_none : goal.returns-clause-loses_none
returns-clause-loses_none g c = search (rules, open-loses_none)
