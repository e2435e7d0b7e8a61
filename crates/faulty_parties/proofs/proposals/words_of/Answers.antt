use Rattle.std.proofs.Common.{rules}
use Rattle.faulty_parties.proofs.proposals.words_of.Goals as goal

pub returns-clause-words : goal.returns-clause-words
returns-clause-words g c = search rules
