use Rattle.basil_types.proofs.ReplayLaws as laws
use Rattle.basil_types.proofs.replayed.maps_before_are_latest.Goals as goal

pub returns : goal.returns
returns c = laws.maps_before_are_latest
