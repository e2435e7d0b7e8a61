use Rattle.std.proofs.Common.{◌≡◌, ◌+◌}
use Rattle.std.specs.Prelude.{drop}
use Rattle.replica_core.specs.KnownWorks.{frames_in}
use Rattle.replica_core.proofs.work.frames_of.Given as goal

abbrev pub invariant-loop-release : goal.invariant-loop-release
invariant-loop-release l = l.frames + frames_in (drop l.release-index l.votes) ≡ frames_in l.votes
