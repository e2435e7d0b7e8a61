-- Stops that are foreseen, and those that happened.
use Rattle.std.specs.Prelude.{◌≡◌, ℕ, ◌-◌, ◌⊎◌, ◌++◌, List, [], ◌∷◌, Bool, true, false, ◌==◌}
use Rattle.std.specs.Prelude.{Option, Some, None}
use Rattle.journal_disk.specs.declared.disk.Stop.{Stop}
use Rattle.journal_disk.specs.Disk.{DiskState, BothTold, OnTold, Writes}
use Rattle.journal_disk.specs.Contents.{repeated}

-- a stop that awaits, and in which write from now on, counted from 1, it comes
pub record Foreseen : Type 0 where
  pub stop : Stop
  pub left : ℕ

-- the stop that awaits, where one is foreseen; those that happened, in order; whether the disk has stopped
pub record StopState : Type 0 where
  pub awaits : Option Foreseen
  pub happened : List Stop
  pub is_stopped : Bool

-- whether the stop that awaits comes in the next write
abbrev pub is_next : Option Foreseen → Bool
is_next None = false
is_next (Some foreseen) = foreseen.left == 1

-- the stop that awaits is a write nearer
abbrev pub nearer : Option Foreseen → Option Foreseen
nearer None = None
nearer (Some foreseen) = Some (record foreseen { left = foreseen.left - 1 })

-- a write later
abbrev pub passed : StopState → StopState
passed stops = record stops { awaits = nearer stops.awaits }

-- the disk stopped by this, and none awaits
abbrev pub came : Stop → StopState → StopState
came stop stops = record { awaits = None; happened = stops.happened ++ stop ∷ []; is_stopped = true }

-- a write was made: the stop that awaits wasn't to come in it, and is a write nearer
pub record Passes (old new : StopState) : Type 0 where
  pub not_next : is_next old.awaits ≡ false
  pub now : new ≡ passed old

-- the stop that awaited came in a write of so many bytes at the place, which hold its own now, repeated
pub record Happens (at count : ℕ) (old new : StopState) (before now : Option DiskState) : Type 0 where
  pub foreseen : Foreseen
  pub awaited : old.awaits ≡ Some foreseen
  pub last : foreseen.left ≡ 1
  pub stops : new ≡ came foreseen.stop old
  pub leaves : BothTold (Writes at (repeated count foreseen.stop.bytes)) before now

-- stops are as before, and where one awaits so is what reads give, and what was done
pub record StillAwaits (old new : StopState) (before now : Option DiskState) : Type 0 where
  pub stops : new ≡ old
  pub unwritten : (foreseen : Foreseen) → old.awaits ≡ Some foreseen → now ≡ before

-- a write failed: the stop that awaits came in it, or stops are as before
abbrev pub MayHappen : (at count : ℕ) (old new : StopState) (before now : Option DiskState) → Type 0
MayHappen at count old new before now = Happens at count old new before now ⊎ StillAwaits old new before now

-- the stop came, and this holds of what reads give, where they are told
pub record HasCome (Holds : List ℕ → Type 0) (stop : Stop) (old new : StopState) (now : Option DiskState) :
    Type 0 where
  pub stops : new ≡ came stop old
  pub leaves : OnTold (λ s. Holds s.contents) now

-- the stop still awaits, and none came
pub record HasNotCome (stop : Stop) (old new : StopState) : Type 0 where
  pub left : ℕ
  pub stops : new ≡ record old { awaits = Some (record { stop = stop; left = left }) }

-- the stop came, and then this holds of what reads give, where they are told; or it still awaits
abbrev pub OnStopped : (List ℕ → Type 0) → Stop → (old new : StopState) → (now : Option DiskState) → Type 0
OnStopped Holds stop old new now = HasCome Holds stop old new now ⊎ HasNotCome stop old new
