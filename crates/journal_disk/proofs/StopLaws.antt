-- What a write or a stop that it met leaves, in the words of every disk.
use Rattle.std.proofs.Common.{◌≡◌, ℕ, List, Some, Result, Ok, Err, OnOk, OnErr, inl, inr, sym, subst, ap, ◌∙◌}
use Rattle.std.specs.Prelude.{◌⊎◌}
use Rattle.journal_disk.specs.Disk.{DiskState, Tears, Writes}
use Rattle.journal_disk.specs.Contents.{repeated}
use Rattle.journal_disk.specs.Foreseen.{MayHappen}
use Rattle.journal_disk.specs.Memory.{MayStop, MemDiskState, puts}
use Rattle.journal_disk.proofs.ContentsLaws.{repeated_length, writes_are, writes_tear}

pub written_of : {T E : Type 0} (result : Result T E) (at : ℕ) (bytes : List ℕ) (old new : MemDiskState) (disk : DiskState) →
    disk ≡ new.disk → OnOk result (new ≡ puts at bytes old) → OnOk result (Writes at bytes old.disk disk)
written_of (Ok done) at bytes old new disk here e =
    subst (Writes at bytes old.disk) (sym (here ∙ ap (λ (s : MemDiskState). s.disk) e)) (writes_are at bytes old.disk)
written_of (Err failed) at bytes old new disk here e = tt

torn_by : (at count : ℕ) (old new : MemDiskState) (disk : DiskState) → disk ≡ new.disk →
    MayStop at count old new → (Some disk ≡ Some old.disk) ⊎ Tears at count old.disk disk
torn_by at count old new disk here (inl same) = inl (ap Some (here ∙ ap (λ (s : MemDiskState). s.disk) same))
torn_by at count old new disk here (inr stops) =
    let bytes = repeated count stops.foreseen.stop.bytes in
    inr (subst (Tears at count old.disk) (sym (here ∙ ap (λ (s : MemDiskState). s.disk) stops.now))
    (writes_tear at count bytes old.disk (repeated_length count stops.foreseen.stop.bytes)))

pub torn_of : {T E : Type 0} (result : Result T E) (at count : ℕ) (old new : MemDiskState) (disk : DiskState) →
    disk ≡ new.disk → OnErr result (MayStop at count old new) →
    OnErr result ((Some disk ≡ Some old.disk) ⊎ Tears at count old.disk disk)
torn_of (Ok done) at count old new disk here e = tt
torn_of (Err failed) at count old new disk here e = torn_by at count old new disk here e

-- ---- a stop that was foreseen

may_happen : (at count : ℕ) (old new : MemDiskState) → MayStop at count old new →
    MayHappen at count old.stops new.stops (Some old.disk) (Some new.disk)
may_happen at count old new (inl same) =
    inr (record {
      stops = ap (λ (s : MemDiskState). s.stops) same;
      unwritten = λ foreseen e. ap (λ (s : MemDiskState). Some s.disk) same;
    })
may_happen at count old new (inr stops) =
    let bytes = repeated count stops.foreseen.stop.bytes in
    inl (record {
      foreseen = stops.foreseen;
      awaited = stops.awaited;
      last = stops.last;
      stops = ap (λ (s : MemDiskState). s.stops) stops.now;
      leaves = subst (λ (s : MemDiskState). Writes at bytes old.disk s.disk) (sym stops.now) (writes_are at bytes old.disk);
    })

pub happen_of : {T E : Type 0} (result : Result T E) (at count : ℕ) (old new : MemDiskState) → OnErr result (MayStop at count old new) →
    OnErr result (MayHappen at count old.stops new.stops (Some old.disk) (Some new.disk))
happen_of (Ok done) at count old new may = tt
happen_of (Err failed) at count old new may = may_happen at count old new may
