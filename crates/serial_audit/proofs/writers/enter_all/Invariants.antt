use Rattle.std.proofs.Common.{[], take}
use Rattle.mv_store.specs.Store.{Stands}
use Rattle.serial_audit.specs.Parts.{all_told, lent}
use Rattle.serial_audit.proofs.writers.enter_all.Given as goal

abbrev pub invariant-loop-t : goal.invariant-loop-t
invariant-loop-t l = Stands l.store (all_told (take l.t-index (lent l.ordered))) []
