use Rattle.basil_types.specs.Lists.{items_at}
use Rattle.frame_views.specs.Fitting.{after_vote}
use Rattle.frame_views.specs.Grammar.{vote_at}
use Rattle.basil_types.proofs.ListLaws.{GoesOn}
use Rattle.frame_views.proofs.items.votes.VotesView.read_some.Given as goal

abbrev pub invariant-loop : goal.invariant-loop
invariant-loop l =
    GoesOn (vote_at l.bounds) after_vote l.count l.counter l.floor l.rest (items_at (vote_at l.bounds) after_vote l.count 0 l.bytes)
