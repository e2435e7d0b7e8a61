use Rattle.std.proofs.Common.{rules}
use Rattle.replica_core.proofs.writeback.release_frame.Goals as goal

pub returns-clause-front : goal.returns-clause-front
returns-clause-front c = search rules
