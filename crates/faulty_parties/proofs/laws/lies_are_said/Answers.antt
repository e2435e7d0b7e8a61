use Rattle.std.proofs.Common.{refl}
use Rattle.faulty_parties.proofs.laws.lies_are_said.Goals as goal

pub returns-clause-votes : goal.returns-clause-votes
returns-clause-votes c s st shard r t d client = record { words = refl; sent = refl }

pub returns-clause-replies : goal.returns-clause-replies
returns-clause-replies c s st shard r t d decided current client = record { words = refl; sent = refl }

pub returns-clause-words : goal.returns-clause-words
returns-clause-words c s st shard r t d view = record { words = refl; sent = refl }

pub returns-clause-proposals : goal.returns-clause-proposals
returns-clause-proposals c s st shard r t d view to = record { words = refl; sent = refl }
