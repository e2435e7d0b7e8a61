use Rattle.std.proofs.Common.{rules, ◌<◌, map, sym, ap, subst}
use Rattle.std.specs.List.Sorted.{IsPermutation}
use Rattle.fallback_leader.specs.Collectors.{CollectorValue}
use Rattle.fallback_leader.specs.Elections.{words_of, Elects}
use Rattle.frame_values.specs.Owned.{word_value}
use Rattle.frame_views.specs.Fitting.{widest, after_word, AreCounted, FitsWord}
use Rattle.replica_core.specs.Leads.{IsWritten, AllWritten}
use Rattle.replica_core.proofs.LeadLaws.{if_both, proposal_counted, written_by, written_collected}
use Rattle.replica_core.proofs.leading.Leading.collect.Goals as goal

pub returns-in-Ok-clause-counted : goal.returns-in-Ok-clause-counted
returns-in-Ok-clause-counted c =
    let f = c.args.cluster.now.f in
    let kept = c.collect.new.self.kept in
    let below : c.args.word.replica < 256 = search rules in
    let one : IsWritten c.args.word = record { replica = below; signature = c.requires } in
    let before : AllWritten c.settle.new.collector.kept =
    subst AllWritten (sym (ap (λ (v : CollectorValue). v.kept) c.settle.ensures))
    (written_by c.self.inside.collector c.self.inside.held_back c.self.invariant) in
    let all : AllWritten c.collect.new.self.kept =
    subst AllWritten (sym (ap (λ (v : CollectorValue). v.kept) c.in-Ok.ensures.kept))
    (written_collected f c.settle.new.collector.kept c.args.id.now c.args.view c.args.word before one) in
    if_both c.in-Ok.proposal (λ p. IsPermutation (words_of kept c.args.id.now c.args.view) p.words.items)
    (λ p. Elects f p.words.items p.decision)
    (λ p. AreCounted (FitsWord widest) after_word (map word_value p.words.items)) c.in-Ok.ensures.same_words c.in-Ok.ensures.elects
    (λ p same elects. proposal_counted c.args.cluster.now kept c.args.id.now c.args.view
    p.words.items p.decision c.n.ensures.in_range all same elects)
