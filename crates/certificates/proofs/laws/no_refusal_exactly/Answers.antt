use Rattle.certificates.proofs.ConflictLaws.{conflicts_exactly}
use Rattle.certificates.proofs.DecideLaws.{proves_exactly, tallied_exactly}
use Rattle.certificates.proofs.laws.no_refusal_exactly.Goals as goal

pub returns-clause-certificates : goal.returns-clause-certificates
returns-clause-certificates c = proves_exactly

pub returns-clause-tallies : goal.returns-clause-tallies
returns-clause-tallies c = tallied_exactly

pub returns-clause-conflicts : goal.returns-clause-conflicts
returns-clause-conflicts c = conflicts_exactly
