use Rattle.std.proofs.Common.{rules}
use Rattle.frame_views.proofs.signed.walk.certified.Goals as goal

pub returns-in-ConflictAbort : goal.returns-in-ConflictAbort
returns-in-ConflictAbort c = search rules
