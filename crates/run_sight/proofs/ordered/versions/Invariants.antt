use Rattle.std.proofs.Common.{◌≡◌, [], drop}
use Rattle.basil_types.specs.Replayed.{put_versions}
use Rattle.run_sight.proofs.ordered.versions.Given as goal

abbrev pub invariant-loop-t : goal.invariant-loop-t
invariant-loop-t l = put_versions [] l.list ≡ put_versions l.versions.entries (drop l.t-index l.list)
