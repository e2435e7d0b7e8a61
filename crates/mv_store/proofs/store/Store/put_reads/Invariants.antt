use Rattle.std.specs.Prelude.{take}
use Rattle.basil_types.specs.Shown.{transaction_of}
use Rattle.mv_store.specs.Changes.{PutsReads}
use Rattle.mv_store.proofs.store.Store.put_reads.Given as goal

abbrev pub invariant-loop-place : goal.invariant-loop-place
invariant-loop-place l = PutsReads l.initial.self.keys l.self.keys (take l.place (transaction_of l.t).reads) l.version l.told
