use Rattle.std.proofs.Common.{rules}
use Rattle.faulty_parties.proofs.pens.Pens.has_left.Goals as goal

pub returns-in-Some-clause-left : goal.returns-in-Some-clause-left
returns-in-Some-clause-left g c = search rules

pub returns-in-Some-clause-as_run : goal.returns-in-Some-clause-as_run
returns-in-Some-clause-as_run g c = search rules
