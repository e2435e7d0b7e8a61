use Rattle.std.proofs.Common.{rules}
use Rattle.frame_values.proofs.lending.messages.lent_invoke.Goals as goal

pub returns : goal.returns
returns c = search rules
