use Rattle.sight_laws.proofs.Again.{seen_shows_nothing}
use Rattle.sight_laws.proofs.seen_shows_nothing.Goals as goal

pub returns : goal.returns
returns c = seen_shows_nothing
