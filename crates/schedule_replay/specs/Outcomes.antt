-- What the bytes of a schedule lead to.
use Rattle.std.specs.Prelude.{ℕ, List, Result, Ok}
use Rattle.basil_types.specs.Steps.{◌>>=◌}
use Rattle.line_fields.specs.TextLines.{lines_of}
use Rattle.schedule_replay.specs.Replays.{ReplayValue}
use Rattle.schedule_replay.specs.Reports.{report}
use Rattle.schedule_replay.specs.Roads.{Road, Direct}
use Rattle.schedule_replay.specs.Stages.{Begins, run_lines, ended}
use Rattle.report_lines.specs.declared.fault.ReplayFault.{ReplayFault}

-- the replay behind the last line, or the fault of the first line that ends it
abbrev pub replay_on : Road → List ℕ → Result ReplayValue ReplayFault
replay_on road bytes = run_lines (lines_of bytes) 1 (Begins road) >>= ended

-- the report, or that fault
abbrev pub outcome_on : Road → List ℕ → Result (List ℕ) ReplayFault
outcome_on road bytes = replay_on road bytes >>= λ r. Ok (report r)

-- where each message is handed over as it is
abbrev pub replay_of : List ℕ → Result ReplayValue ReplayFault
replay_of = replay_on Direct

abbrev pub outcome_of : List ℕ → Result (List ℕ) ReplayFault
outcome_of = outcome_on Direct
