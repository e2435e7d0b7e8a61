use Rattle.std.proofs.Common.{rules}
use Rattle.party_commands.proofs.client.read_task.Goals as goal

pub returns-in_default : goal.returns-in_default
returns-in_default c = search rules
