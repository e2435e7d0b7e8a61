use Rattle.std.proofs.Common.{rules}
use Rattle.keyring.proofs.plain.PlainKeysVerifier.accepts.Goals as goal

pub returns : goal.returns
returns c = search rules
