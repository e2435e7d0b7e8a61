use Rattle.std.proofs.Common.{◌≡◌, map}
use Rattle.std.specs.List.{range_with_len}
use Rattle.cluster_run.specs.States.{Setup, State, first_standing}
use Rattle.cluster_world.specs.Shows.{Shows}
use Rattle.journaled_runs.specs.Beginning.{AddsJournals}
use Rattle.journaled_runs.proofs.beginning.add_shard.Given as goal

abbrev pub invariant-loop-index : goal.invariant-loop-index
invariant-loop-index g l =
    (s : Setup) (st : State) → s.cluster ≡ l.cluster → s.kit ≡ g.K.Kit.value l.world.kit → Shows s l.world.core st →
    AddsJournals s (map (first_standing s l.shard) (range_with_len 0 l.index)) l.initial.journals l.journals
