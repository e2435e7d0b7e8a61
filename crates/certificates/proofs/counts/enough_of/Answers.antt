use Rattle.std.proofs.Common.{rules}
use Rattle.certificates.proofs.counts.enough_of.Goals as goal

pub returns-in-Logged : goal.returns-in-Logged
returns-in-Logged c = search rules

pub returns-in-FastAbort : goal.returns-in-FastAbort
returns-in-FastAbort c = search rules
