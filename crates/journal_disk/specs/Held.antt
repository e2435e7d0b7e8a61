-- What a disk in memory has, by what it did in order.
use Rattle.std.specs.Prelude.{ℕ, ◌≤◌, List, Option, Some, None, length, take, drop, ⊤}
use Rattle.std.specs.List.{fold}
use Rattle.journal_disk.specs.declared.memory.held.Done.{Done}
use Rattle.journal_disk.specs.declared.memory.held.Done.TheVariants.{Write, Sync}
use Rattle.journal_disk.specs.Disk.{DiskState, keeps}
use Rattle.journal_disk.specs.Contents.{begins, blank, writes}

-- what one of them makes of a disk
abbrev pub after : DiskState → Done → DiskState
after s (Write at bytes) = writes at bytes s
after s Sync = keeps s

-- what they make of a blank disk, where it was revived after so many of them
abbrev pub disk_of : Option ℕ → List Done → DiskState
disk_of None done = fold after blank done
disk_of (Some count) done = fold after (begins (fold after blank (take count done)).contents) (drop count done)

-- it was revived after no more than it did
abbrev pub IsWithin : Option ℕ → List Done → Type 0
IsWithin None done = ⊤
IsWithin (Some count) done = count ≤ length done
