use Rattle.std.proofs.Common.{◌≡◌, length}
use Rattle.txn_meta.specs.Merging.{ahead, from_key}
use Rattle.txn_meta.proofs.conflicts.passed.Given as goal

abbrev pub decreases-loop-found : goal.decreases-loop-found
decreases-loop-found l = length (ahead l.found l.writes)

abbrev pub invariant-loop-found : goal.invariant-loop-found
invariant-loop-found l = from_key l.key (ahead l.found l.writes) ≡ from_key l.key (ahead l.fn.next l.fn.writes)
