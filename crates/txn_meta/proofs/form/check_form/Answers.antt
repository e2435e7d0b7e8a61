use Rattle.std.proofs.Common.{arith}
use Rattle.std.proofs.lemmas.Grind.{elements}
use Rattle.txn_meta.proofs.form.check_form.Goals as goal

pub returns-then-is_none-2-clause-refused : goal.returns-then-is_none-2-clause-refused
returns-then-is_none-2-clause-refused c = grind (arith, elements) steps 2000000
