use Rattle.std.proofs.Common.{rules}
use Rattle.sha256_lanes.proofs.lanes.all_bytes.Goals as goal

pub returns : goal.returns
returns c = search rules
