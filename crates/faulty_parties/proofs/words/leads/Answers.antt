use Rattle.std.proofs.Common.{rules}
use Rattle.faulty_parties.proofs.words.leads.Goals as goal

pub returns : goal.returns
returns c = search rules
