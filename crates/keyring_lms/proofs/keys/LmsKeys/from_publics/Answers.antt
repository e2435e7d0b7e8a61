use Rattle.std.proofs.Common.{rules}
use Rattle.keyring_lms.proofs.keys.LmsKeys.from_publics.Goals as goal

pub returns-clause-list : goal.returns-clause-list
returns-clause-list c = search rules

pub returns-clause-accepted : goal.returns-clause-accepted
returns-clause-accepted c = search rules
