use Rattle.basil_types.specs.Lists.{items_at}
use Rattle.frame_views.specs.Fitting.{after_tally}
use Rattle.frame_views.specs.Grammar.{tally_at}
use Rattle.basil_types.proofs.ListLaws.{GoesOn}
use Rattle.frame_views.proofs.items.tallies.TalliesView.read_some.Given as goal

abbrev pub invariant-loop : goal.invariant-loop
invariant-loop l =
    GoesOn (tally_at l.bounds) after_tally l.count l.counter l.floor l.rest (items_at (tally_at l.bounds) after_tally l.count 0 l.bytes)
