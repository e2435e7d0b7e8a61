use Rattle.basil_types.specs.Lists.{items_at}
use Rattle.frame_views.specs.Fitting.{after_word}
use Rattle.frame_views.specs.Grammar.{word_at}
use Rattle.basil_types.proofs.ListLaws.{GoesOn}
use Rattle.frame_views.proofs.items.words.ElectsView.read_some.Given as goal

abbrev pub invariant-loop : goal.invariant-loop
invariant-loop l =
    GoesOn (word_at l.bounds) after_word l.count l.counter l.floor l.rest (items_at (word_at l.bounds) after_word l.count 0 l.bytes)
