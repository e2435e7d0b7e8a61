use Rattle.std.proofs.Common.{arith}
use Rattle.sha2.proofs.Schedule256.{IsRoundsAt_at}
use Rattle.sha256_lanes.specs.Lanes.{block_of, state_of}
use Rattle.sha256_lanes.proofs.compression.sixteen_steps.Goals as goal

pub returns : goal.returns
returns c k b h lt held =
    let s1 = c.four_steps-v.ensures k b h lt
    (IsRoundsAt_at b h (block_of k c.args.window.now) (state_of k c.args.working) _ _ (omega arith) held) in
    let s2 = c.four_steps-v-2.ensures k b h lt s1 in
    let s3 = c.four_steps-v-3.ensures k b h lt s2 in
    let s4 = c.four_steps.ensures k b h lt s3 in
    IsRoundsAt_at b h (block_of k c.four_steps.new.window) (state_of k c.four_steps.result) _ _ (omega arith) s4
