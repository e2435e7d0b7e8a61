use Rattle.cluster_run.proofs.Certifying.{test_is_exact, certified_are_proven, proven_are_certified, certified_stay}
use Rattle.cluster_run.proofs.certified.certified_exactly.Goals as goal

pub returns : goal.returns
returns c =
    let exactly = c.no_refusal_exactly.ensures.certificates in
    record {
      test = test_is_exact exactly;
      proven = certified_are_proven (λ s frame m setting bytes is. (c.read_frames_fit.ensures s frame m bytes is).fits) exactly;
      complete = proven_are_certified exactly;
      stay = certified_stay;
    }
