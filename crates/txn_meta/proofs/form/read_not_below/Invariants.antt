use Rattle.std.proofs.Common.{◌≡◌, ◌≤◌, ◌+◌, length, not}
use Rattle.basil_types.specs.Shown.{transaction_of, reads_left}
use Rattle.basil_types.specs.Version.{below}
use Rattle.basil_types.proofs.Walks.{place_from}
use Rattle.txn_meta.specs.Form.{first_not_below}
use Rattle.txn_meta.proofs.form.read_not_below.Given as goal

abbrev pub invariant-loop-item : goal.invariant-loop-item
invariant-loop-item l = record {
  found : first_not_below l.version (transaction_of l.fn.t).reads
      ≡ place_from (λ r. not (below r.version l.version)) l.place (reads_left l.item-iterator);
  few : l.place + length (reads_left l.item-iterator) ≤ 32;
}
