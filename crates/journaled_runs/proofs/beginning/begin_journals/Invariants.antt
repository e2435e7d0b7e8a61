use Rattle.std.proofs.Common.{◌≡◌}
use Rattle.std.specs.List.{flat_map, range_with_len}
use Rattle.cluster_run.specs.States.{Setup, shard_standing, start}
use Rattle.cluster_world.specs.Shows.{Shows}
use Rattle.journaled_runs.specs.Journaling.{fresh_journals}
use Rattle.journaled_runs.specs.Shown.{Holds}
use Rattle.journaled_runs.proofs.beginning.begin_journals.Given as goal

abbrev pub invariant-loop-shard : goal.invariant-loop-shard
invariant-loop-shard g l =
    (s : Setup) → s.cluster ≡ l.cluster → s.kit ≡ g.K.Kit.value l.world.kit → Shows s l.world.core (start s) →
    Holds s l.journals (fresh_journals s (flat_map (shard_standing s) (range_with_len 0 l.shard)))
