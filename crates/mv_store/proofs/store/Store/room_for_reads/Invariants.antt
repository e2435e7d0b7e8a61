use Rattle.std.specs.Prelude.{IsSome, All, take}
use Rattle.basil_types.specs.Shown.{transaction_of}
use Rattle.mv_store.specs.Keys.{reader_slot, OnlyRoom}
use Rattle.mv_store.proofs.store.Store.room_for_reads.Given as goal

abbrev pub invariant-loop-place : goal.invariant-loop-place
invariant-loop-place l =
    record {
      more : OnlyRoom l.initial.self.keys l.self.keys;
      room : All (λ x. IsSome (reader_slot l.self.keys x.key l.version)) (take l.place (transaction_of l.t).reads);
    }
