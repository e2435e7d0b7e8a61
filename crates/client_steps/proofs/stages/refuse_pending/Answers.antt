use Rattle.std.proofs.Common.{rules}
use Rattle.client_steps.proofs.stages.refuse_pending.Goals as goal

pub returns-in_ok-key-in-Some : goal.returns-in_ok-key-in-Some
returns-in_ok-key-in-Some c = search rules
