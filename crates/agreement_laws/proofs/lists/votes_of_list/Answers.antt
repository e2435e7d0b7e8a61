use Rattle.agreement_laws.proofs.ListSets.{votes_of_list}
use Rattle.agreement_laws.proofs.lists.votes_of_list.Goals as goal

pub returns : goal.returns
returns c = votes_of_list
