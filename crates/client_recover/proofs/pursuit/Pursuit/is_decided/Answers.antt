use Rattle.std.proofs.Common.{rules}
use Rattle.client_recover.proofs.pursuit.Pursuit.is_decided.Goals as goal

pub returns : goal.returns
returns c = search rules
