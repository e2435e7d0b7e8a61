use Rattle.std.proofs.Common.{rules}
use Rattle.client_recover.proofs.second.commit_logged.Goals as goal

pub returns-then-not-each_enough : goal.returns-then-not-each_enough
returns-then-not-each_enough c = search rules

pub returns : goal.returns
returns c = search rules
