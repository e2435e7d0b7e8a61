use Rattle.std.proofs.Common.{refl, sym}
use Rattle.sha2.proofs.Schedule256.{rounds_first}
use Rattle.sha256_lanes.specs.Lanes.{block_of, state_of}
use Rattle.sha256_lanes.proofs.LaneLaws.{slice_index-block}
use Rattle.sha256_lanes.proofs.compression.first_step.Goals as goal

pub returns : goal.returns
returns c k b h lt window held =
    rounds_first b h (block_of k c.args.words.now) (state_of k c.args.working) c.args.t _ _ _ c.requires window held refl
    (sym (slice_index-block c.args.words.now k c.args.t c.requires)) (c.round.ensures k lt)
