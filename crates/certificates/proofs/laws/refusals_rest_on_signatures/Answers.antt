use Rattle.certificates.proofs.RestLaws.{certificates_alike, tallies_alike, conflicts_alike}
use Rattle.certificates.proofs.laws.refusals_rest_on_signatures.Goals as goal

pub returns-clause-certificates : goal.returns-clause-certificates
returns-clause-certificates c = certificates_alike

pub returns-clause-tallies : goal.returns-clause-tallies
returns-clause-tallies c = tallies_alike

pub returns-clause-conflicts : goal.returns-clause-conflicts
returns-clause-conflicts c = conflicts_alike
