use Rattle.certificates.proofs.GrowthLaws.{longer_tallies, longer_fast_aborts, longer_logs}
use Rattle.certificates.proofs.laws.longer_lists_stand.Goals as goal

pub returns-clause-tallies : goal.returns-clause-tallies
returns-clause-tallies c = longer_tallies

pub returns-clause-fast_aborts : goal.returns-clause-fast_aborts
returns-clause-fast_aborts c = longer_fast_aborts

pub returns-clause-logs : goal.returns-clause-logs
returns-clause-logs c = longer_logs
