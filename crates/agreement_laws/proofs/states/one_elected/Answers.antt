use Rattle.agreement_laws.proofs.Views.{one_elected}
use Rattle.agreement_laws.proofs.states.one_elected.Goals as goal

pub returns : goal.returns
returns c = one_elected
