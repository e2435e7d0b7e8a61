use Rattle.basil_types.proofs.VersionLaws as laws
use Rattle.basil_types.proofs.version.versions_are_in_order.Goals as goal

pub returns : goal.returns
returns c = laws.in_order
