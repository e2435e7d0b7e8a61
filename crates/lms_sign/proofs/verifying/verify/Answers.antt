use Rattle.lms_sign.proofs.ValidLaws.{ok-valid}
use Rattle.lms_sign.proofs.verifying.verify.Goals as goal

pub returns-clause-valid : goal.returns-clause-valid
returns-clause-valid c = rw c.check_key.ensures (ok-valid c.args.public.now c.args.message.now c.args.signature.now)
