use Rattle.std.proofs.Common.{arith}
use Rattle.std.proofs.lemmas.Grind.{common_steps}
use Rattle.hss_sign.specs.Verifying.{first_refusal}
use Rattle.hss_sign.proofs.verifying.check_counts.Goals as goal

pub returns-clause-passed : goal.returns-clause-passed
unfolding first_refusal
returns-clause-passed c = grind (arith, common_steps) steps 2000000

pub returns-clause-refused : goal.returns-clause-refused
unfolding first_refusal
returns-clause-refused c = grind (arith, common_steps) steps 2000000
