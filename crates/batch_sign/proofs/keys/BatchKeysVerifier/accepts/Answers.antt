use Rattle.std.proofs.Common.{rules}
use Rattle.batch_sign.proofs.keys.BatchKeysVerifier.accepts.Goals as goal

pub returns : goal.returns
returns g c = search rules
