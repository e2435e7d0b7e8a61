use Rattle.std.proofs.Common.{rules}
use Rattle.lms_ots.proofs.signatures.ots_candidate.Goals as goal

pub returns-clause-answers : goal.returns-clause-answers
returns-clause-answers c = search rules

pub returns-clause-set_type : goal.returns-clause-set_type
returns-clause-set_type c = search rules
