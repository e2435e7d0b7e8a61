use Rattle.std.proofs.Common.{arith}
use Rattle.sha2.proofs.Schedule256.{IsRoundsAt_at}
use Rattle.sha256_lanes.specs.Lanes.{block_of, state_of}
use Rattle.sha256_lanes.proofs.compression.four_steps.Goals as goal

pub returns : goal.returns
returns c k b h lt held =
    let s1 = c.step-v.ensures k b h lt held in
    let s2 = c.step-v-2.ensures k b h lt s1 in
    let s3 = c.step-v-3.ensures k b h lt
    (IsRoundsAt_at b h (block_of k c.step-v-2.new.window) (state_of k c.step-v-2.result) _ _ (omega arith) s2) in
    let s4 = c.step.ensures k b h lt
    (IsRoundsAt_at b h (block_of k c.step-v-3.new.window) (state_of k c.step-v-3.result) _ _ (omega arith) s3) in
    IsRoundsAt_at b h (block_of k c.step.new.window) (state_of k c.step.result) _ _ (omega arith) s4
