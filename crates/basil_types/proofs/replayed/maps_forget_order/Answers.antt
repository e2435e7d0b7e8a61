use Rattle.basil_types.proofs.ReplayLaws as laws
use Rattle.basil_types.proofs.replayed.maps_forget_order.Goals as goal

pub returns : goal.returns
returns c = laws.maps_forget_order laws.maps_are_latest
