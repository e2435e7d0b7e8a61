use Rattle.client_laws.proofs.Rising.{times_rise}
use Rattle.client_laws.proofs.signing.times_rise.Goals as goal

pub returns : goal.returns
returns c = times_rise
