use Rattle.std.proofs.Common.{[], ◌∷◌, map, arith, append_assoc}
use Rattle.std.proofs.lemmas.List.FromFn.{map-range_with_len_more}
use Rattle.std.specs.List.{range_with_len}
use Rattle.basil_types.specs.declared.party.Party.TheVariants.{Replica}
use Rattle.client_steps.proofs.address.add_shard.Goals as goal

pub loop-index-preserved : goal.loop-index-preserved
loop-index-preserved c =
    let more = map-range_with_len_more (λ index. Replica c.args.shard index) 0 c.loop-index.index c.loop-index.index (omega arith) in
    rw (c.in_ok-push.ensures.items, c.loop-index.invariant, more)
    (append_assoc c.args.parties.now.items (map (λ index. Replica c.args.shard index) (range_with_len 0 c.loop-index.index))
    (Replica c.args.shard c.loop-index.index ∷ []))
