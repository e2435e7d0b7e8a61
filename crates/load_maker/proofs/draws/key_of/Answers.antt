use Rattle.std.proofs.Common.{rules}
use Rattle.load_maker.proofs.draws.key_of.Goals as goal

pub returns : goal.returns
returns c = search rules
