use Rattle.std.proofs.Common.{rules}
use Rattle.keyring.proofs.plain.seed_of.Goals as goal

pub returns-in-Replica : goal.returns-in-Replica
returns-in-Replica c = search rules
