-- A disk in memory that stops, and what each call makes of it.
use Rattle.std.specs.Prelude.{◌≡◌, ℕ, ◌⊎◌, List, [], Bool, false, ◌||◌, Some, None}
use Rattle.basil_types.specs.Memory.{CallCounts, counted, fails_next, uncalled}
use Rattle.journal_disk.specs.declared.disk.Stop.{Stop}
use Rattle.journal_disk.specs.Disk.{DiskState, keeps}
use Rattle.journal_disk.specs.Contents.{begins, blank, repeated, writes}
use Rattle.journal_disk.specs.Foreseen.{Foreseen, StopState, came, is_next, passed}

-- its bytes and what it did to them; its calls; the stop that awaits, and those that happened
pub record MemDiskState : Type 0 where
  pub disk : DiskState
  pub calls : CallCounts
  pub stops : StopState

-- no stop awaits, and none happened
abbrev pub unstopped : StopState
unstopped = record { awaits = None; happened = []; is_stopped = false }

-- before the first call, where the calls of these numbers will fail
abbrev pub fresh : List ℕ → MemDiskState
fresh failing = record { disk = blank; calls = uncalled failing; stops = unstopped }

-- whether the next call fails whatever it asks: it is listed, or the disk has stopped
abbrev pub is_refused : MemDiskState → Bool
is_refused s = s.stops.is_stopped || fails_next s.calls

-- whether the next write must fail
abbrev pub write_fails : MemDiskState → Bool
write_fails s = is_refused s || is_next s.stops.awaits

-- a call was made, and nothing else changed
abbrev pub called : Bool → MemDiskState → MemDiskState
called failed s = record s { calls = counted failed s.calls }

-- the disk came to keep what its reads give
abbrev pub synced : MemDiskState → MemDiskState
synced s = record s { disk = keeps s.disk }

-- the bytes were written at the place
abbrev pub puts : ℕ → List ℕ → MemDiskState → MemDiskState
puts at bytes s = record s { disk = writes at bytes s.disk; stops = passed s.stops }

-- the disk stopped within a write of so many bytes at the place
abbrev pub stopped : ℕ → ℕ → Stop → MemDiskState → MemDiskState
stopped at count stop s = record s { disk = writes at (repeated count stop.bytes) s.disk; stops = came stop s.stops }

-- it stopped so by the stop that awaited, within the write that this named
pub record Stops (at count : ℕ) (old new : MemDiskState) : Type 0 where
  pub foreseen : Foreseen
  pub awaited : old.stops.awaits ≡ Some foreseen
  pub last : foreseen.left ≡ 1
  pub now : new ≡ stopped at count foreseen.stop old

-- a failed write changed nothing, or the disk stopped within it
abbrev pub MayStop : (at count : ℕ) (old new : MemDiskState) → Type 0
MayStop at count old new = (new ≡ old) ⊎ Stops at count old new

-- the stop awaits, and comes in the write that it names, from now on
abbrev pub awaiting : Stop → StopState → StopState
awaiting stop stops = record stops { awaits = Some (record { stop = stop; left = stop.write }) }

-- it will stop within that write from now on
abbrev pub stops_in : ℕ → List ℕ → MemDiskState → MemDiskState
stops_in write bytes s = record s { stops = awaiting (record { write = write; bytes = bytes }) s.stops }

-- none awaits, and the disk isn't stopped any more
abbrev pub goes_on : StopState → StopState
goes_on stops = record stops { awaits = None; is_stopped = false }

-- it runs again, and keeps what its reads give
abbrev pub revived : MemDiskState → MemDiskState
revived s = record s { disk = begins s.disk.contents; stops = goes_on s.stops }
