use Rattle.std.proofs.Common.{refl}
use Rattle.sha256_lanes.proofs.lanes.kept.Goals as goal

pub returns : goal.returns
returns c k lt = rw (c.where_below-2.ensures k lt, c.where_below.ensures k lt) refl
