use Rattle.std.proofs.Common.{rules}
use Rattle.basil_types.proofs.version.Version.is_below.Goals as goal

pub returns-in-Equal : goal.returns-in-Equal
returns-in-Equal c = search rules
