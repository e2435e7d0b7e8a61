use Rattle.basil_types.specs.Lists.{items_at}
use Rattle.frame_views.specs.Fitting.{after_log}
use Rattle.frame_views.specs.Grammar.{log_at}
use Rattle.basil_types.proofs.ListLaws.{GoesOn}
use Rattle.frame_views.proofs.items.logs.LogsView.read_some.Given as goal

abbrev pub invariant-loop : goal.invariant-loop
invariant-loop l =
    GoesOn (log_at l.bounds l.decided) after_log l.count l.counter l.floor l.rest
    (items_at (log_at l.bounds l.decided) after_log l.count 0 l.bytes)
