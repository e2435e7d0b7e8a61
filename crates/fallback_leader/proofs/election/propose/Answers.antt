use Rattle.std.proofs.Common.{◌≡◌, List, ◌++◌, ◌∷◌, [], ap, map, subst, sym, ◌∙◌, rules}
use Rattle.std.specs.BTreeMap.{insert_entry}
use Rattle.std.specs.List.Sorted.{IsStrictlyIncreasing}
use Rattle.std.specs.Map.{values_of}
use Rattle.std.specs.Ordering.{nat_cmp}
use Rattle.frame_values.specs.declared.owned.parts.ElectPart.{ElectPart}
use Rattle.fallback_leader.specs.Elections.{words_of, by_replica}
use Rattle.fallback_leader.proofs.OrderLaws.{by_replica_push, replicas_ascend}
use Rattle.fallback_leader.proofs.election.propose.Goals as goal

pub returns-clause-ascend : goal.returns-clause-ascend
returns-clause-ascend c =
    let es = c.put_copy.new.copies.entries in
    let words = words_of c.args.kept.now c.args.id.now c.args.view in
    let last = c.args.last.now in
    let is : c.from_vec.result.items ≡ values_of es = search rules in
    let put : es ≡ by_replica (words ++ last ∷ []) = c.in_ok-put_copy.ensures.entries
    ∙ ap (λ es. insert_entry nat_cmp es last.replica last) c.in_ok-copies.ensures ∙ sym (by_replica_push words last) in
    subst (λ (words : List ElectPart). IsStrictlyIncreasing (map (λ w. w.replica) words))
    (sym is) (replicas_ascend es (words ++ last ∷ []) put c.in_ok-put_copy.ensures.ordered)
