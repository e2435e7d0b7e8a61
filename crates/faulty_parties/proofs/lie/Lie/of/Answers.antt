use Rattle.std.proofs.Common.{rules}
use Rattle.faulty_parties.proofs.lie.Lie.of.Goals as goal

pub returns-in-Some-clause-ready : goal.returns-in-Some-clause-ready
returns-in-Some-clause-ready c = search rules
