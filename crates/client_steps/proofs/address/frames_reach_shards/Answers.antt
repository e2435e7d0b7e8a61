use Rattle.client_steps.proofs.AddressLaws.{involved_framed, shard_framed}
use Rattle.client_steps.proofs.address.frames_reach_shards.Goals as goal

pub returns-clause-shard : goal.returns-clause-shard
returns-clause-shard c = λ k m shard. shard_framed k m shard

pub returns-clause-involved : goal.returns-clause-involved
returns-clause-involved c = λ k t m. involved_framed k t m
