use Rattle.std.proofs.Common.{rules}
use Rattle.certificates.proofs.conflicts.is_rival.Goals as goal

pub returns-then-has_good_form : goal.returns-then-has_good_form
returns-then-has_good_form c = search rules

pub returns-else-has_good_form : goal.returns-else-has_good_form
returns-else-has_good_form c = search rules
