use Rattle.std.proofs.Common.{rules}
use Rattle.certificates.proofs.tallies.needed.Goals as goal

pub returns-in-Commit : goal.returns-in-Commit
returns-in-Commit c = search rules
