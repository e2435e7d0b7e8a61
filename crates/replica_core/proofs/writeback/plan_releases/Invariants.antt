use Rattle.std.proofs.Common.{◌++◌, List}
use Rattle.replica_core.specs.declared.work.Release.{Release}
use Rattle.replica_core.specs.Releases.{AreReleasesOf, AreWithin}
use Rattle.replica_core.proofs.writeback.plan_releases.Given as goal

abbrev pub invariant-loop-vote : goal.invariant-loop-vote
invariant-loop-vote l =
    record {
      goes_on : (more : List Release) → AreReleasesOf l.seat l.size l.known.table.entries l.vote-iterator.rest.items more →
          AreReleasesOf l.seat l.size l.known.table.entries l.fn.votes.items (l.planned.items ++ more);
      within : AreWithin l.known.table.entries l.vote-iterator.rest.items;
    }
