use Rattle.basil_types.proofs.VersionLaws as laws
use Rattle.basil_types.proofs.version.versions_are_told_apart.Goals as goal

pub returns : goal.returns
returns c = laws.same_exactly
