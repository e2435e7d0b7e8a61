use Rattle.std.proofs.Common.{rules}
use Rattle.vote_tally.proofs.tally.Tally.holds.Goals as goal

pub returns-in-CommitTally-clause-value : goal.returns-in-CommitTally-clause-value
returns-in-CommitTally-clause-value c = search rules
