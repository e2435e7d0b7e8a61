use Rattle.std.proofs.Common.{rules}
use Rattle.lms_ots.proofs.tables.candidate_lane.Goals as goal

pub returns-clause-end : goal.returns-clause-end
returns-clause-end c = search rules
