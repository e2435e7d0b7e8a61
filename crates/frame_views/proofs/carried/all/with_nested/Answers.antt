use Rattle.std.proofs.Common.{rules}
use Rattle.frame_views.proofs.carried.all.with_nested.Goals as goal

pub returns : goal.returns
returns c = search rules
