use Rattle.std.proofs.Common.{rules}
use Rattle.load_maker.proofs.load.make_lines.Goals as goal

pub returns-clause-told : goal.returns-clause-told
returns-clause-told g c = search rules
