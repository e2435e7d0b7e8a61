use Rattle.std.proofs.Common.{rules}
use Rattle.run_begun.proofs.begun.Begun.put_write.Goals as goal

pub returns-in_err-refuse-clause-refused : goal.returns-in_err-refuse-clause-refused
returns-in_err-refuse-clause-refused c = search rules

pub add_write-requires : goal.add_write-requires
add_write-requires c = search rules

pub returns-clause-put : goal.returns-clause-put
returns-clause-put c = search rules
