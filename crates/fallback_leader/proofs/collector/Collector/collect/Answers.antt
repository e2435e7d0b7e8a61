use Rattle.std.proofs.Common.{◌≡◌, List, ◌+◌, ◌++◌, ◌∷◌, [], Option, length, false, ap, subst, sym, ◌∙◌, arith}
use Rattle.std.specs.Prelude.{IfSome}
use Rattle.std.specs.List.Sorted.{IsPermutation}
use Rattle.quorum_laws.specs.Numbers.{log_quorum}
use Rattle.fallback_leader.specs.declared.words.KeptWord.{KeptWord}
use Rattle.fallback_leader.specs.declared.words.Proposal.{Proposal}
use Rattle.fallback_leader.specs.Elections.{words_of, has_word, ascending, Elects}
use Rattle.fallback_leader.specs.Collectors.{IsKept}
use Rattle.fallback_leader.proofs.WordLaws.{apart_push}
use Rattle.fallback_leader.proofs.IndexLaws.{index_push}
use Rattle.fallback_leader.proofs.OrderLaws.{proposed-permutation, proposed-elects}
use Rattle.fallback_leader.proofs.collector.Collector.collect.Goals as goal
use Rattle.fallback_leader.proofs.collector.Collector.collect.Goals.{then-standing-quorum+in_ok-propose, else-standing-quorum}

pub invariant_of-self-2 : goal.invariant_of-self-2
invariant_of-self-2 c =
    let kept = c.self.inside.kept.items in
    let k : KeptWord = record { id = c.args.id.now; view = c.args.view; word = c.args.word } in
    let unheard : has_word kept k.id k.view k.word.replica ≡ false =
    sym (c.if-has_word_of.ensures ∙ ap (λ kept. has_word kept k.id k.view k.word.replica) c.as_slice-else-quorum-standing.ensures.value) in
    let pushed : c.push_reserved.new.self.items ≡ kept ++ k ∷ [] =
    c.push_reserved.ensures.items ∙ ap (λ ks. ks ++ k ∷ []) c.reserve.ensures.items in
    subst (λ ks. IsKept ks c.add.new.self) (sym pushed)
    (record {
      apart = apart_push kept k c.self.invariant.apart unheard;
      indexed =
          index_push kept k c.self.inside.index c.add.new.self c.len.result c.self.invariant.indexed (c.len.ensures ∙ c.reserve.ensures.len
          ∙ sym c.as_slice.ensures.len ∙ ap (λ (ks : List KeptWord). length ks) c.as_slice.ensures.value) c.in_ok-add.ensures.added;
    })

pub returns-clause-same_words : goal.returns-clause-same_words
returns-clause-same_words c =
    let kept = c.self.inside.kept.items in
    let k : KeptWord = record { id = c.args.id.now; view = c.args.view; word = c.args.word } in
    let unheard : has_word kept k.id k.view k.word.replica ≡ false =
    sym (c.if-has_word_of.ensures ∙ ap (λ kept. has_word kept k.id k.view k.word.replica) c.as_slice-else-quorum-standing.ensures.value) in
    let pushed : c.push_reserved.new.self.items ≡ kept ++ k ∷ [] =
    c.push_reserved.ensures.items ∙ ap (λ ks. ks ++ k ∷ []) c.reserve.ensures.items in
    let Same = λ (o : Option Proposal). IfSome o (λ p. IsPermutation (words_of c.push_reserved.new.self.items k.id k.view) p.words.items) in
    elim c.if-standing-quorum.branch [
      | then-standing-quorum+in_ok-propose w ↦
          let here = w.as_slice-then-standing-quorum.ensures.value ∙ c.reserve.ensures.items in
          let words = w.in_ok-propose.ensures.words ∙ ap (λ kept. ascending (words_of kept k.id k.view ++ k.word ∷ [])) here in
          subst Same (sym w.proposal-is) (proposed-permutation kept
          c.push_reserved.new.self.items k w.in_ok-propose.field-0.words.items c.self.invariant.apart unheard pushed words)
      | else-standing-quorum w ↦ subst Same (sym w.proposal-is) tt
    ]

pub returns-clause-elects : goal.returns-clause-elects
returns-clause-elects c =
    let kept = c.self.inside.kept.items in
    let k : KeptWord = record { id = c.args.id.now; view = c.args.view; word = c.args.word } in
    let unheard : has_word kept k.id k.view k.word.replica ≡ false =
    sym (c.if-has_word_of.ensures ∙ ap (λ kept. has_word kept k.id k.view k.word.replica) c.as_slice-else-quorum-standing.ensures.value) in
    let Elected = λ (o : Option Proposal). IfSome o (λ p. Elects c.args.cluster.now.f p.words.items p.decision) in
    elim c.if-standing-quorum.branch [
      | then-standing-quorum+in_ok-propose w ↦
          let here = w.as_slice-then-standing-quorum.ensures.value ∙ c.reserve.ensures.items in
          let words = w.in_ok-propose.ensures.words ∙ ap (λ kept. ascending (words_of kept k.id k.view ++ k.word ∷ [])) here in
          let counted = c.count_of-standing.ensures ∙ ap (λ kept. length (words_of kept k.id k.view)) c.as_slice.ensures.value in
          let full : length (words_of kept k.id k.view) + 1 ≡ log_quorum c.args.cluster.now.f =
          omega (arith, counted, w.if-standing-quorum.true, c.from-quorum.ensures, c.log_quorum.ensures) in
          subst Elected (sym w.proposal-is)
          (proposed-elects c.args.cluster.now.f kept k w.in_ok-propose.field-0.words.items w.in_ok-propose.field-0.decision
          c.self.invariant.apart unheard words full w.in_ok-propose.ensures.ascend w.in_ok-propose.ensures.decision)
      | else-standing-quorum w ↦ subst Elected (sym w.proposal-is) tt
    ]
