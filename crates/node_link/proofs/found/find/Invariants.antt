-- What was found stands before the dialogue of the bytes that are left, which lie at the end.
use Rattle.std.proofs.Common.{◌≡◌, length}
use Rattle.node_link.specs.Dialogue.{spoken_in, behind}
use Rattle.node_link.proofs.FindingLaws.{IsEnd}
use Rattle.node_link.proofs.found.find.Given as goal

abbrev pub invariant-loop-lent : goal.invariant-loop-lent
invariant-loop-lent l =
    record {
      found : behind l.envelopes.items (spoken_in l.cluster l.rest) ≡ spoken_in l.cluster l.bytes;
      last : IsEnd l.rest l.bytes;
    }

abbrev pub decreases-loop-lent : goal.decreases-loop-lent
decreases-loop-lent l = length l.rest
