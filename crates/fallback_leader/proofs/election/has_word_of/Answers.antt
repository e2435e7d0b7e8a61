use Rattle.std.proofs.Common.{ap, sym, ◌∙◌}
use Rattle.fallback_leader.specs.Index.{is_heard_at, places_at}
use Rattle.fallback_leader.proofs.PlaceLaws.{is_heard-words_at}
use Rattle.fallback_leader.proofs.IndexLaws.{heard_is}
use Rattle.fallback_leader.proofs.election.has_word_of.Goals as goal

pub returns : goal.returns
returns c =
    let kept = c.args.kept.now in
    c.has_word_at.ensures ∙ ap (λ ps. is_heard_at kept ps c.args.replica) c.places.ensures
    ∙ sym (is_heard-words_at kept (places_at c.args.index.now c.args.id.now c.args.view) c.args.replica)
    ∙ heard_is kept c.args.index.now c.args.id.now c.args.view c.args.replica c.requires
