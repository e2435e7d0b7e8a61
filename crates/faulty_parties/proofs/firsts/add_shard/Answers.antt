use Rattle.std.proofs.Common.{[], ◌∷◌, ◌++◌, List, map, ap, ◌∙◌, sym, arith, append_assoc}
use Rattle.std.proofs.lemmas.List.FromFn.{map-range_with_len_more}
use Rattle.std.specs.List.{range_with_len}
use Rattle.node_steps.specs.Pendings.{Front, front_of}
use Rattle.faulty_parties.specs.Fronts.{front_to}
use Rattle.faulty_parties.proofs.firsts.add_shard.Goals as goal

pub loop-index-preserved : goal.loop-index-preserved
loop-index-preserved c =
    let one = front_to c.args.front.now.bytes.now c.args.shard in
    let more = map-range_with_len_more one 0 c.loop-index.index c.loop-index.index (omega arith) in
    record {
      fronts = c.in_ok-add_one.ensures.fronts
          ∙ ap (λ (l : List Front). l ++ one c.loop-index.index ∷ []) c.loop-index.invariant.fronts
          ∙ append_assoc (map front_of c.args.frames.now.items) (map one (range_with_len 0 c.loop-index.index))
          (one c.loop-index.index ∷ [])
          ∙ ap (λ (l : List Front). map front_of c.args.frames.now.items ++ l) (sym more);
      rooms = c.in_ok-add_one.ensures.rooms;
    }
