use Rattle.std.proofs.Common.{[], ◌∷◌, sym, ap, ◌∙◌, ◌++◌, List, arith}
use Rattle.std.proofs.lemmas.List.FromFn.{map-range_with_len_more}
use Rattle.basil_types.specs.declared.party.Party.{Party}
use Rattle.basil_types.specs.declared.party.Party.TheVariants.{Replica}
use Rattle.replica_core.proofs.election.replicas_of.Goals as goal

pub loop-index-preserved : goal.loop-index-preserved
loop-index-preserved c =
    c.in_ok-push.ensures.items ∙ ap (λ (l : List Party). l ++ Replica c.args.shard c.loop-index.index ∷ []) c.loop-index.invariant
    ∙ sym (map-range_with_len_more (Replica c.args.shard) 0 c.loop-index.index c.loop-index.index (omega (arith)))
