use Rattle.std.proofs.Common.{rules}
use Rattle.replay_kit.proofs.made.make.Goals as goal

pub returns-in_ok-keys-in-Lms-clause-value : goal.returns-in_ok-keys-in-Lms-clause-value
returns-in_ok-keys-in-Lms-clause-value c = search rules
