use Rattle.std.proofs.Common.{◌≡◌, ◌∙◌, sym, ap, arith, subst}
use Rattle.std.specs.List.{flat_map, range_with_len}
use Rattle.cluster_run.specs.States.{shard_standing, start}
use Rattle.journaled_runs.specs.Journaling.{fresh_journals}
use Rattle.journaled_runs.specs.Shown.{Holds}
use Rattle.journaled_runs.proofs.BeginLaws.{keeps_first, next_shard}
use Rattle.journaled_runs.proofs.beginning.begin_journals.Goals as goal

pub loop-shard-preserved : goal.loop-shard-preserved
loop-shard-preserved g c = λ s cluster kit shows.
    next_shard s c.loop-shard.shard c.loop-shard.journals c.add_shard.new.journals (c.loop-shard.invariant s cluster kit shows)
    (c.in_ok-add_shard.ensures s (start s) cluster kit shows)

pub returns : goal.returns
returns g c = λ s cluster kit shows.
    let all : c.loop-shard.shard ≡ c.args.cluster.shards =
    omega (arith, c.loop-shard-test.false, c.loop-shard.auto.shard-end, ap (λ b. b.shards) c.cluster.view_is) in
    keeps_first s (g.K.Kit.value c.args.world.now.kit) c.loop-shard.journals kit
    (subst (λ n. Holds s c.loop-shard.journals (fresh_journals s (flat_map (shard_standing s) (range_with_len 0 n))))
    (all ∙ ap (λ k. k.shards) (sym cluster)) (c.loop-shard.invariant s cluster kit shows))
