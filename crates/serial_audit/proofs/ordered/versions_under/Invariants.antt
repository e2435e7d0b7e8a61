use Rattle.std.proofs.Common.{◌≡◌, [], drop}
use Rattle.std.specs.Prelude.{option_copied}
use Rattle.basil_types.specs.Replayed.{put_versions}
use Rattle.serial_audit.specs.Parts.{those_under, lent_by_version}
use Rattle.serial_audit.proofs.ordered.versions_under.Given as goal

abbrev pub invariant-loop-t : goal.invariant-loop-t
invariant-loop-t l =
    put_versions [] (those_under (option_copied l.bound) l.list)
    ≡ put_versions (lent_by_version l.versions.entries) (those_under (option_copied l.bound) (drop l.t-index l.list))
