use Rattle.std.proofs.Common.{rules}
use Rattle.frame_views.specs.Frames.{body_in}
use Rattle.frame_views.proofs.frames.whole.body.Goals as goal

pub returns-else-is_empty : goal.returns-else-is_empty
unfolding body_in
returns-else-is_empty c = search rules
