use Rattle.premise_watch.proofs.RoomLaws as rooms
use Rattle.premise_watch.proofs.laws.counted_are_few.Goals as goal

pub returns : goal.returns
returns c = rooms.counted_are_few
