use Rattle.std.proofs.Common.{rules}
use Rattle.load_maker.proofs.draws.next_draw.Goals as goal

pub returns-clause-drawn : goal.returns-clause-drawn
returns-clause-drawn c = search rules
