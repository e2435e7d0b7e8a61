use Rattle.std.proofs.Common.{rules}
use Rattle.frame_fitting.specs.Room as rooms
use Rattle.frame_fitting.proofs.messages.vote_room.Goals as goal

pub returns-clause-value : goal.returns-clause-value
unfolding rooms.voted_room
returns-clause-value c = search rules
