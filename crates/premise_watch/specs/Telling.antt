-- A fault, and the breach that it tells.
use Rattle.std.specs.Prelude.{◌≡◌, Option, Some, ⊤}
use Rattle.premise_watch.specs.declared.broken.Broken.{Broken}
use Rattle.premise_watch.specs.declared.broken.WatchFault.{WatchFault}
use Rattle.premise_watch.specs.declared.broken.WatchFault.TheVariants as fault

-- the fault is this breach, or want of memory
abbrev pub Tells : Option Broken → WatchFault → Type 0
Tells breach (fault.Broken b) = breach ≡ Some b
Tells breach fault.NoMemory = ⊤
