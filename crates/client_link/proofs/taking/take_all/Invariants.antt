-- Some of the envelopes were taken.
use Rattle.std.proofs.Common.{length}
use Rattle.client_link.proofs.TalkLaws.{Taking}
use Rattle.client_link.proofs.taking.take_all.Given as goal

abbrev pub invariant-loop-envelope : goal.invariant-loop-envelope
invariant-loop-envelope g l =
    Taking l.initial.client l.client l.initial.errands l.errands l.initial.given.items l.given.items l.sent

abbrev pub decreases-loop-envelope : goal.decreases-loop-envelope
decreases-loop-envelope g l = length l.given.items
