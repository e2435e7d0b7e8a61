use Rattle.std.proofs.Common.{rules}
use Rattle.run_begun.proofs.begun.Begun.put_claim.Goals as goal

pub returns-clause-put : goal.returns-clause-put
returns-clause-put c = search rules
