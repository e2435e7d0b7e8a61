use Rattle.std.proofs.Common.{nat_lt, slice_index}
use Rattle.sha256_lanes.proofs.LaneLaws.{chosen-state}
use Rattle.sha256_lanes.proofs.lanes.kept_values.Goals as goal

pub returns : goal.returns
returns c k lt =
    rw (
      c.kept.ensures k lt,
      c.kept-2.ensures k lt,
      c.kept-3.ensures k lt,
      c.kept-4.ensures k lt,
      c.kept-5.ensures k lt,
      c.kept-6.ensures k lt,
      c.kept-7.ensures k lt,
      c.kept-8.ensures k lt,
    ) (chosen-state (nat_lt (slice_index c.args.here k) (slice_index c.args.from k))
    (nat_lt (slice_index c.args.here k) (slice_index c.args.to k)) c.args.old c.args.next k)
