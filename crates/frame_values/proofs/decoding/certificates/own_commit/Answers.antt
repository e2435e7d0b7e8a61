use Rattle.std.proofs.Common.{rules}
use Rattle.frame_values.proofs.decoding.certificates.own_commit.Goals as goal

pub returns-in_ok-body-in-Logged : goal.returns-in_ok-body-in-Logged
returns-in_ok-body-in-Logged c = search rules
