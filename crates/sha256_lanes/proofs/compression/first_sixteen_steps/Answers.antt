use Rattle.std.proofs.Common.{refl}
use Rattle.sha2.specs.Sha256.{rounds}
use Rattle.sha256_lanes.specs.Lanes.{state_of}
use Rattle.sha256_lanes.proofs.compression.first_sixteen_steps.Goals as goal

pub returns : goal.returns
unfolding rounds
returns c k b lt window =
    let h = state_of k c.args.start in
    let s1 = c.first_four_steps-v.ensures k b h lt window refl in
    let s2 = c.first_four_steps-v-2.ensures k b h lt window s1 in
    let s3 = c.first_four_steps-v-3.ensures k b h lt window s2 in
    c.first_four_steps.ensures k b h lt window s3
