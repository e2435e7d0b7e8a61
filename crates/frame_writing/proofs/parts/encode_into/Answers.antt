use Rattle.std.proofs.Common.{rules}
use Rattle.frame_writing.proofs.parts.encode_into.Goals as goal

pub returns-clause-appends : goal.returns-clause-appends
returns-clause-appends c = search rules
