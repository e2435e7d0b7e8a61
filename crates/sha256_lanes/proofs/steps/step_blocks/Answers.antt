use Rattle.sha2.specs.Sha256.{digest_bytes}
use Rattle.sha256_lanes.proofs.LaneLaws.{below_sixteen}
use Rattle.sha256_lanes.proofs.steps.step_blocks.Goals as goal

pub returns : goal.returns
unfolding digest_bytes
returns c k lt =
    below_sixteen _ (c.head_word.ensures k lt) (c.head_word-2.ensures k lt) (c.head_word-3.ensures k lt) (c.head_word-4.ensures k lt)
    (c.head_word-5.ensures k lt) (c.place_word.ensures k lt) (c.shifted_word.ensures k lt) (c.shifted_word-2.ensures k lt)
    (c.shifted_word-3.ensures k lt) (c.shifted_word-4.ensures k lt) (c.shifted_word-5.ensures k lt) (c.shifted_word-6.ensures k lt)
    (c.shifted_word-7.ensures k lt) (c.last_word.ensures k lt) (c.splat.ensures k lt) (c.splat-2.ensures k lt)
