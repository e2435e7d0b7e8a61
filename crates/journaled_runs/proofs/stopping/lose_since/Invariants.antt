use Rattle.std.proofs.Common.{◌≡◌, ◌+◌, ◌≤◌, false}
use Rattle.std.specs.List.{range_with_len}
use Rattle.std.specs.Prelude.{◌-◌, Ok}
use Rattle.cluster_run.specs.States.{Setup, State}
use Rattle.cluster_world.specs.Shows.{Shows}
use Rattle.journaled_runs.specs.Stopping.{LosesAll}
use Rattle.journaled_runs.proofs.stopping.lose_since.Given as goal

abbrev pub invariant-loop-earlier : goal.invariant-loop-earlier
invariant-loop-earlier g l = record {
  going : l.world.ended ≡ false;
  kit : l.world.kit ≡ l.initial.world.kit;
  within : l.earlier - l.before ≤ l.earlier-end - l.before;
  lost : (s : Setup) (st : State) → Shows s l.initial.world.core st →
      LosesAll s (range_with_len (l.before + 1) (l.earlier - l.before)) st l.world.core (Ok tt);
}
