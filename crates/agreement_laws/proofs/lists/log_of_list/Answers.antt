use Rattle.agreement_laws.proofs.ListSets.{log_of_list}
use Rattle.agreement_laws.proofs.lists.log_of_list.Goals as goal

pub returns : goal.returns
returns c = log_of_list
