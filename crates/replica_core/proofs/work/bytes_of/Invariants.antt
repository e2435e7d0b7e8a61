use Rattle.std.proofs.Common.{◌≡◌, ◌+◌}
use Rattle.std.specs.Prelude.{drop}
use Rattle.replica_core.specs.KnownWorks.{release_bytes}
use Rattle.replica_core.proofs.work.bytes_of.Given as goal

abbrev pub invariant-loop-release : goal.invariant-loop-release
invariant-loop-release l = l.bytes + release_bytes l.size (drop l.release-index l.votes) ≡ release_bytes l.size l.votes
