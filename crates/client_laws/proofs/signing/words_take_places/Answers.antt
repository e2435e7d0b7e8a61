use Rattle.client_laws.proofs.Placing.{words_placed}
use Rattle.client_laws.proofs.signing.words_take_places.Goals as goal

pub returns : goal.returns
returns c = words_placed
