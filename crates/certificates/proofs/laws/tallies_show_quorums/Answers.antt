use Rattle.certificates.proofs.QuorumLaws.{tallies_show}
use Rattle.certificates.proofs.laws.tallies_show_quorums.Goals as goal

pub returns : goal.returns
returns c = tallies_show
