use Rattle.std.proofs.Common.{rules}
use Rattle.id_maps.proofs.hasher.IdHasherDefault.default.Goals as goal

pub returns : goal.returns
returns c = search rules
