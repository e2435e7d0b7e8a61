use Rattle.std.proofs.Common.{arith}
use Rattle.std.proofs.lemmas.Grind.{common_steps}
use Rattle.frame_writing.proofs.signatures.put_signature_reserved.Goals as goal

pub returns-clause-appends : goal.returns-clause-appends
returns-clause-appends c = grind (arith, common_steps) steps 2000000
