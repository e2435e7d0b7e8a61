use Rattle.agreement_laws.proofs.Safety.{commit_votes_of}
use Rattle.agreement_laws.proofs.states.commit_votes.Goals as goal

pub returns : goal.returns
returns c = commit_votes_of
