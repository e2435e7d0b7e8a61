-- What ends a replay.
use Rattle.std.specs.Prelude.{Bool, true, false, Result, Err}
use Rattle.report_lines.specs.declared.fault.ReplayFault.{ReplayFault}
use Rattle.report_lines.specs.declared.fault.ReplayFault.TheVariants.{Broken, NoMemory}

-- a breach, and want of memory, end a replay
abbrev pub ends_by : {A : Type 0} → Result A ReplayFault → Bool
ends_by (Err (Broken b)) = true
ends_by (Err NoMemory) = true
ends_by _ = false
