use Rattle.std.proofs.Common.{◌≡◌}
use Rattle.std.specs.List.{list_any}
use Rattle.std.specs.Str.{bytes_eq}
use Rattle.basil_types.specs.Shown.{transaction_of, writes_left}
use Rattle.basil_types.specs.Transaction.{writes_key}
use Rattle.txn_meta.proofs.conflicts.writes_key.Given as goal

abbrev pub invariant-loop-item : goal.invariant-loop-item
invariant-loop-item l = writes_key (transaction_of l.fn.t) l.key ≡ list_any (λ w. bytes_eq w.key l.key) (writes_left l.item-iterator)
