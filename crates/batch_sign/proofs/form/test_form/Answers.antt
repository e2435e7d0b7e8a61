use Rattle.std.proofs.Common.{rules}
use Rattle.batch_sign.proofs.form.test_form.Goals as goal

pub returns-clause-formed : goal.returns-clause-formed
returns-clause-formed c = search rules
