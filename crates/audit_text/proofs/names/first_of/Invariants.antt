use Rattle.std.proofs.Common.{◌≡◌, drop}
use Rattle.std.specs.Prelude.{find}
use Rattle.audit_text.proofs.NameLaws.{of_version}
use Rattle.audit_text.proofs.names.first_of.Given as goal

abbrev pub invariant-loop-place : goal.invariant-loop-place
invariant-loop-place l =
    find (of_version l.version) l.versions.entries ≡ find (of_version l.version) (drop l.place l.versions.entries)
