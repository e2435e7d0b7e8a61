-- What a schedule, and a load, lead to.
use Rattle.std.specs.Prelude.{ℕ, List, Result, Ok, Err}
use Rattle.command_ends.specs.Outcome.{Outcome, Usage, BadLine, Written, Broken, Full}
use Rattle.command_input.specs.declared.command.LoadSize.{LoadSize}
use Rattle.load_maker.specs.Loads.{text_of_load}
use Rattle.schedule_replay.specs.Replays.{ReplayValue}
use Rattle.schedule_replay.specs.Totals.{totals}
use Rattle.report_lines.specs.declared.fault.ReplayFault.{ReplayFault}
use Rattle.report_lines.specs.declared.fault.ReplayFault.TheVariants as fault

-- a schedule leads to its report, or to one of three faults; to the others none leads
abbrev pub replayed : Result (List ℕ) ReplayFault → Outcome
replayed (Ok text) = Written text
replayed (Err (fault.BadInput line reason)) = BadLine line reason
replayed (Err (fault.Broken broken)) = Broken broken
replayed (Err (fault.Full messages bytes)) = Full messages bytes
replayed (Err other) = Usage

-- the schedule of a number and a count of transactions
abbrev pub load_text : LoadSize → List ℕ
load_text size = text_of_load size.seed size.count

-- a schedule's run leads to its totals, or to a fault as above
abbrev pub loaded : Result ReplayValue ReplayFault → Outcome
loaded (Ok r) = Written (totals r)
loaded (Err f) = replayed (Err f)
