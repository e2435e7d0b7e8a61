use Rattle.std.proofs.Common.{rules}
use Rattle.schedule_replay.proofs.road.hand_over.Goals as goal

pub returns-in-Ok-clause-told : goal.returns-in-Ok-clause-told
returns-in-Ok-clause-told g c = search rules
