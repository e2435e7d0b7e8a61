use Rattle.std.proofs.Common.{ap, ◌∙◌, map}
use Rattle.basil_types.specs.declared.version.Version.{Version}
use Rattle.basil_types.specs.Transaction.{TransactionValue}
use Rattle.serial_audit.specs.Parts.{lent}
use Rattle.serial_audit.proofs.Ordering.{lent_values}
use Rattle.serial_audit.proofs.ordered.by_version.Goals as goal

pub returns : goal.returns
returns c =
    ap lent c.in_ok-ordered.ensures ∙ lent_values c.in_ok-versions.versions.entries
    ∙ ap (map (λ (e : Version × TransactionValue). e.1)) c.in_ok-versions.ensures
