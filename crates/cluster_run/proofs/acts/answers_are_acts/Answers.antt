use Rattle.std.proofs.lemmas.List.Sorted.{Contains-permutation, IsPermutation-sym}
use Rattle.cluster_run.proofs.Elects.{ProposalsElect}
use Rattle.cluster_run.proofs.Joined as joined
use Rattle.cluster_run.proofs.acts.answers_are_acts.Goals as goal

pub returns : goal.returns
returns c =
    let elect : ProposalsElect = λ f kept x view word p apart is. record {
      elects = c.proposals_elect.ensures.elects f kept x view word p apart is;
      same = λ v i.
          let listed = c.proposals_elect.ensures.words f kept x view word p apart is in
          Contains-permutation p.words _ v (IsPermutation-sym _ p.words listed) i;
    } in
    joined.answers_are_acts c.no_refusal_exactly.ensures.certificates c.no_refusal_exactly.ensures.tallies
    c.proofs_carry.ensures.certificates c.proofs_carry.ensures.tallies c.certificates_are_certificates.ensures
    c.tallies_are_tallies.ensures c.tallies_show_quorums.ensures c.verdicts_are_sound.ensures c.releases_are_sound.ensures
    c.election_of_list.ensures elect
