use Rattle.client_laws.proofs.Handing.{deciding_set}
use Rattle.client_laws.proofs.decisions.deciding_set_decides.Goals as goal

pub returns : goal.returns
returns c = deciding_set
