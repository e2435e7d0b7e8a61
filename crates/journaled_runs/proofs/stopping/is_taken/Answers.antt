use Rattle.std.proofs.Common.{rules}
use Rattle.journaled_runs.proofs.stopping.is_taken.Goals as goal

pub returns-in-Taken : goal.returns-in-Taken
returns-in-Taken c = search rules
