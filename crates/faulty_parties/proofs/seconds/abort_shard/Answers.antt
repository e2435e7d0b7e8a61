use Rattle.std.proofs.Common.{rules}
use Rattle.faulty_parties.proofs.seconds.abort_shard.Goals as goal

pub returns-in-None : goal.returns-in-None
returns-in-None g c = search rules
