use Rattle.std.proofs.Common.{◌≡◌, ◌∙◌, map, sym, ap, arith, subst}
use Rattle.std.specs.List.{range_with_len}
use Rattle.cluster_run.specs.States.{first_standing}
use Rattle.quorum_laws.specs.Numbers.{replicas}
use Rattle.journaled_runs.specs.Beginning.{AddsJournals}
use Rattle.journaled_runs.proofs.BeginLaws.{next_added}
use Rattle.journaled_runs.proofs.beginning.add_shard.Goals as goal

pub loop-index-preserved : goal.loop-index-preserved
loop-index-preserved g c = λ s st cluster kit shows.
    next_added s c.args.shard c.loop-index.index c.args.journals.now c.loop-index.journals c.add_journal.new.journals
    (c.loop-index.invariant s st cluster kit shows) (c.in_ok-add_journal.ensures s st cluster kit shows)

pub returns : goal.returns
returns g c = λ s st cluster kit shows.
    let all : c.loop-index.index ≡ c.n-index-end.result =
    omega (arith, c.loop-index-test.false, c.loop-index.auto.index-end) in
    subst (λ n. AddsJournals s (map (first_standing s c.args.shard) (range_with_len 0 n)) c.args.journals.now c.loop-index.journals)
    (all ∙ c.n-index-end.ensures.value ∙ ap (λ k. replicas k.f) (sym cluster))
    (c.loop-index.invariant s st cluster kit shows)
