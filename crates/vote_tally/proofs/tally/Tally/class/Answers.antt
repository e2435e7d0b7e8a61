use Rattle.std.proofs.Common.{rules}
use Rattle.vote_tally.proofs.tally.Tally.class.Goals as goal

pub returns-then-holds-3-clause-value : goal.returns-then-holds-3-clause-value
returns-then-holds-3-clause-value c = search rules
