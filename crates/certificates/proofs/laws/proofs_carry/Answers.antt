use Rattle.certificates.proofs.RestLaws.{certificates_carry, tallies_carry, conflicts_carry}
use Rattle.certificates.proofs.laws.proofs_carry.Goals as goal

pub returns-clause-certificates : goal.returns-clause-certificates
returns-clause-certificates c = certificates_carry

pub returns-clause-tallies : goal.returns-clause-tallies
returns-clause-tallies c = tallies_carry

pub returns-clause-conflicts : goal.returns-clause-conflicts
returns-clause-conflicts c = conflicts_carry
