use Rattle.agreement_laws.proofs.ListSets.{election_of_list}
use Rattle.agreement_laws.proofs.lists.election_of_list.Goals as goal

pub returns : goal.returns
returns c = election_of_list
