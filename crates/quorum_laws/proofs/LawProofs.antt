-- The numbers of the protocol.
use Rattle.std.proofs.Common.{arith}
use Rattle.quorum_laws.specs.Numbers.{replicas}
use Rattle.quorum_laws.specs.Sets.{shared, others}
use Rattle.quorum_laws.specs.Laws.{TalliesShare, TalliesShareCorrect, TallyHasCorrect, LogAndTallyShare}
use Rattle.quorum_laws.specs.Laws.{LogAndMajorityShareCorrect, LogsShareCorrect, CorrectAreMany}
use Rattle.quorum_laws.proofs.Counts.{sets_share, some_member, size_others}

pub tallies_share : TalliesShare
tallies_share f p q h k = omega (arith, sets_share (replicas f) p q)

pub log_and_tally_share : LogAndTallyShare
log_and_tally_share f p q h k = omega (arith, sets_share (replicas f) p q)

pub correct_are_many : CorrectAreMany
correct_are_many f faulty h = omega (arith, size_others faulty (replicas f))

pub tally_has_correct : TallyHasCorrect
tally_has_correct f faulty p h k = some_member
    (shared p (others faulty)) (replicas f) (omega (arith, sets_share (replicas f) p (others faulty), size_others faulty (replicas f)))

pub tallies_share_correct : TalliesShareCorrect
tallies_share_correct f faulty p q h k l = tally_has_correct f faulty (shared p q) h (tallies_share f p q k l)

pub logs_share_correct : LogsShareCorrect
logs_share_correct f faulty p q h k l =
    omega (arith, sets_share (replicas f) p q, sets_share (replicas f) (shared p q) (others faulty), size_others faulty (replicas f))

pub log_and_majority_share_correct : LogAndMajorityShareCorrect
log_and_majority_share_correct f faulty p q h k l = tally_has_correct f faulty (shared p q) h (omega (arith, sets_share (replicas f) p q))
