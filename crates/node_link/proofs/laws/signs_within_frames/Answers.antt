use Rattle.node_link.proofs.SpendingLaws.{signs_within}
use Rattle.node_link.proofs.laws.signs_within_frames.Goals as goal

pub returns : goal.returns
returns c = signs_within c.places_never_repeat.ensures c.signs_no_more_than_handed.ensures
