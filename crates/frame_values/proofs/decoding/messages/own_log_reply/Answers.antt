use Rattle.std.proofs.Common.{rules}
use Rattle.frame_values.proofs.decoding.messages.own_log_reply.Goals as goal

pub returns : goal.returns
returns c = search rules
