use Rattle.std.proofs.Common.{◌≡◌}
use Rattle.frame_views.specs.Items.{tallies_left}
use Rattle.certificates.specs.Refusals.{last_shard}
use Rattle.certificates.proofs.shards.last_shard.Given as goal

abbrev pub invariant-loop-tally : goal.invariant-loop-tally
invariant-loop-tally l = last_shard l.last (tallies_left l.tally-iterator) ≡ last_shard l.shard (tallies_left l.fn.tallies)
