use Rattle.agreement_laws.proofs.Staying.{with_more_words}
use Rattle.agreement_laws.proofs.states.certificates_stay.Goals as goal

pub returns : goal.returns
returns c = with_more_words
