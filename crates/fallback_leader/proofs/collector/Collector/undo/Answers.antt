use Rattle.std.proofs.Common.{◌≡◌, List, [], ◌∷◌, ◌++◌, append-nil, ap, subst, ◌∙◌}
use Rattle.std.specs.Prelude.{option_to_list}
use Rattle.fallback_leader.specs.declared.words.KeptWord.{KeptWord}
use Rattle.fallback_leader.specs.Elections.{AreApart}
use Rattle.fallback_leader.specs.Index.{IsIndexOf}
use Rattle.fallback_leader.specs.Collectors.{IsKept}
use Rattle.fallback_leader.proofs.WordLaws.{apart_front}
use Rattle.fallback_leader.proofs.IndexLaws.{index_pop, kept_is}
use Rattle.fallback_leader.proofs.collector.Collector.undo.Goals as goal
use Rattle.fallback_leader.proofs.collector.Collector.undo.Goals.{in-Some, in-None}

pub invariant_of-self : goal.invariant_of-self
invariant_of-self c =
    let front : List KeptWord = c.pop.new.self.items in
    elim c.match-pop.branch [
      | in-Some w ↦
          let all : c.self.inside.kept.items ≡ front ++ w.in-Some.last ∷ [] =
          c.pop.ensures.items ∙ ap (λ o. front ++ option_to_list o) w.in-Some.is in
          kept_is front _ w.take_back.new.self _ (ap (λ s. s.kept.items) w.self-inside-is) (ap (λ s. s.index) w.self-inside-is)
          (record {
            apart = apart_front front (w.in-Some.last ∷ []) (subst AreApart all c.self.invariant.apart);
            indexed = index_pop front w.in-Some.last c.self.inside.index w.take_back.new.self
                (subst (λ ks. IsIndexOf ks c.self.inside.index) all c.self.invariant.indexed) w.take_back.ensures;
          })
      | in-None w ↦
          let all : c.self.inside.kept.items ≡ front =
          c.pop.ensures.items ∙ ap (λ o. front ++ option_to_list o) w.in-None.is ∙ append-nil front in
          kept_is front _ c.self.inside.index _ (ap (λ s. s.kept.items) w.self-inside-is) (ap (λ s. s.index) w.self-inside-is)
          (subst (λ ks. IsKept ks c.self.inside.index) all c.self.invariant)
    ]
