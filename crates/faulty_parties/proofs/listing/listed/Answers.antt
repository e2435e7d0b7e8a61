use Rattle.std.proofs.Common.{◌≡◌, ◌∙◌, ◌<◌, List, ◌∷◌, ◌++◌, [], ap, map, subst, sym, arith}
use Rattle.std.specs.List.{range_with_len}
use Rattle.frame_values.specs.declared.owned.parts.ElectPart.{ElectPart}
use Rattle.frame_values.specs.Owned.{word_value}
use Rattle.frame_views.specs.Fitting.{AreCounted, FitsWord, after_word, widest}
use Rattle.frame_views.specs.Values.{WordValue}
use Rattle.node_steps.specs.Lists.{by_number}
use Rattle.quorum_laws.specs.Numbers.{replicas}
use Rattle.faulty_parties.specs.Tallies as lists
use Rattle.faulty_parties.proofs.ListLaws.{by_number_mapped, listed_counted, none_listed, one_listed}
use Rattle.faulty_parties.proofs.listing.listed.Goals as goal
use Rattle.faulty_parties.proofs.listing.listed.Goals.{in-Some+in_ok-copy_of-in-Some+in_ok-push-in-Some, in-None}
use Rattle.std.proofs.lemmas.List.{map-append}

pub loop-replica-preserved : goal.loop-replica-preserved
loop-replica-preserved c =
    let words = c.args.words.now in
    let parts = c.loop-replica.parts.items in
    elim c.match-word_by.branch [
      | in-Some+in_ok-copy_of-in-Some+in_ok-push-in-Some w ↦
          one_listed (λ (p : ElectPart). p.replica) word_value words c.loop-replica.replica w.in-Some.word.now (map word_value parts) _
          (sym w.in-Some.ensures)
          (ap (λ v. map word_value v.items) w.parts-is ∙ ap (map word_value) w.in_ok-push-in-Some.ensures.items
          ∙ map-append word_value parts (_ ∷ [])
          ∙ ap (λ x. map word_value parts ++ x ∷ []) w.in_ok-copy_of-in-Some.ensures)
          c.loop-replica.invariant
      | in-None w ↦
          ap (λ v. map word_value v.items) w.parts-is
          ∙ none_listed (λ (p : ElectPart). p.replica) word_value words c.loop-replica.replica (map word_value parts)
          (sym w.in-None.ensures) c.loop-replica.invariant
    ]

pub returns-clause-listed : goal.returns-clause-listed
returns-clause-listed c =
    let words = c.args.words.now in
    let last : c.loop-replica.replica ≡ c.n-replica-end.result =
    omega (arith, c.loop-replica-test.false, c.loop-replica.auto.replica-end) in
    c.loop-replica.invariant
    ∙ ap (λ n. map word_value (by_number (λ (p : ElectPart). p.replica) (range_with_len 0 n) words)) (last ∙ c.n-replica-end.ensures.value)
    ∙ sym (by_number_mapped word_value (λ (w : WordValue). w.replica) (range_with_len 0 (replicas c.args.cluster.now.f)) words)

pub returns-clause-counted : goal.returns-clause-counted
returns-clause-counted c =
    let cl = c.args.cluster.now in
    let words = c.args.words.now in
    let last : c.loop-replica.replica ≡ c.n-replica-end.result =
    omega (arith, c.loop-replica-test.false, c.loop-replica.auto.replica-end) in
    let is : map word_value c.loop-replica.parts.items ≡ lists.listed cl (map word_value words) =
    c.loop-replica.invariant
    ∙ ap (λ n. map word_value (by_number (λ (p : ElectPart). p.replica) (range_with_len 0 n) words)) (last ∙ c.n-replica-end.ensures.value)
    ∙ sym (by_number_mapped word_value (λ (w : WordValue). w.replica) (range_with_len 0 (replicas cl.f)) words) in
    subst (λ (l : List WordValue). AreCounted (FitsWord widest) after_word l) (sym is)
    (listed_counted (map word_value words) c.requires cl (subst (λ n. n < 256) c.n-replica-end.ensures.value c.n-replica-end.type_inv))
