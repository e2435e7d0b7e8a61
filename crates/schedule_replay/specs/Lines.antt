-- What a line does.
use Rattle.std.specs.Prelude.{ℕ, List, Result, Ok, Err, option_map, ◌&&◌, length, nat_le, if◌then◌else◌}
use Rattle.cluster_run.specs.declared.fault.WorldFault.{WorldFault}
use Rattle.cluster_run.specs.declared.fault.WorldFault.TheVariants as world
use Rattle.node_steps.specs.Refusing.{unless_refused}
use Rattle.line_fields.specs.Limits.{longest_line}
use Rattle.schedule_text.specs.Reading.{is_header}
use Rattle.schedule_text.specs.declared.line.Line.{Line}
use Rattle.schedule_text.specs.declared.line.Line.TheVariants.{Begin, Read}
use Rattle.schedule_text.specs.declared.line.LineFault.{LineFault}
use Rattle.schedule_text.specs.declared.line.LineFault.TheVariants as line_fault
use Rattle.line_fields.specs.declared.reason.Reason.{Reason}
use Rattle.line_fields.specs.declared.reason.Reason.TheVariants.{Misspelt, RefusedCall}
use Rattle.schedule_replay.specs.Events.{line_does}
use Rattle.schedule_replay.specs.Names.{with_name, with_key}
use Rattle.schedule_replay.specs.Reasons.{reason_of}
use Rattle.schedule_replay.specs.Replays.{NamesValue, ReplayValue}
use Rattle.report_lines.specs.declared.fault.ReplayFault.{ReplayFault}
use Rattle.report_lines.specs.declared.fault.ReplayFault.TheVariants.{BadInput, Broken, Full, NoMemory}

-- a transaction that begins has its name, and one that reads its key
abbrev pub names_after : Line → NamesValue → NamesValue
names_after (Begin name client time) names = with_name name client names
names_after (Read name key) names = with_key name key names
names_after _ names = names

-- a call that is refused, and a faulty party without a leaf, are reason 9
abbrev pub answered : Line → (number : ℕ) → Result ReplayValue WorldFault → Result ReplayValue ReplayFault
answered line number (Ok r) = Ok (record r { names = names_after line r.names })
answered line number (Err (world.Broken b)) = Err (Broken b)
answered line number (Err (world.PoolFull messages bytes)) = Err (Full messages bytes)
answered line number (Err (world.Call f)) = Err (BadInput number RefusedCall)
answered line number (Err (world.Exhausted party)) = Err (BadInput number RefusedCall)

-- its reasons are tested before its events
abbrev pub line_step : ReplayValue → Line → (number : ℕ) → Result ReplayValue ReplayFault
line_step r line number =
    unless_refused (option_map (BadInput number) (reason_of r line)) (answered line number (line_does r line))

-- a later header is reason 2 for anything, unless it is too long
abbrev pub later_reason : List ℕ → Reason → Reason
later_reason line reason = if nat_le (length line) longest_line && is_header line then Misspelt else reason

-- why a line says nothing
abbrev pub bad_line : List ℕ → (number : ℕ) → LineFault → ReplayFault
bad_line line number (line_fault.BadLine n reason) = BadInput number (later_reason line reason)
bad_line line number line_fault.NoMemory = NoMemory
