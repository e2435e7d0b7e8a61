use Rattle.std.proofs.Common.{◌≡◌, ◌++◌, map}
use Rattle.frame_views.specs.Items.{logs_of, logs_left}
use Rattle.frame_values.specs.Owned.{log_value}
use Rattle.frame_values.proofs.decoding.lists.own_logs.Given as goal

abbrev pub invariant-loop-item : goal.invariant-loop-item
invariant-loop-item l = map log_value l.parts.items ++ logs_left l.item-iterator ≡ logs_of l.logs
