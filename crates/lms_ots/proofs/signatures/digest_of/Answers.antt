use Rattle.std.proofs.Common.{rules}
use Rattle.lms_ots.specs.Signatures.{message_digest}
use Rattle.lms_ots.proofs.signatures.digest_of.Goals as goal

pub returns : goal.returns
unfolding message_digest
returns c = search rules
