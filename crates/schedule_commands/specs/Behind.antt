-- How far a schedule is run that is read.
use Rattle.std.specs.Prelude.{◌≡◌, ◌≤◌, ℕ, ◌+◌, List, ◌∷◌, ◌++◌, length, Bool, false, true, Result, Ok, Err, ⊤}
use Rattle.schedule_replay.specs.Outcomes.{outcome_on}
use Rattle.schedule_replay.specs.Replays.{ReplayValue}
use Rattle.schedule_replay.specs.Roads.{Road, road_with}
use Rattle.schedule_replay.specs.Schedules.{Ends, IsAt, IsGoing}
use Rattle.schedule_replay.specs.Stages.{Stage, Begins, road_of, run_lines}
use Rattle.report_lines.specs.declared.fault.ReplayFault.{ReplayFault}
use Rattle.report_lines.specs.declared.fault.ReplayFault.TheVariants.{BadInput, Broken, Full}
use Rattle.report_lines.specs.declared.fault.ReplayFault.TheVariants.{LinkFault, WriteFault, NoMemory}
use Rattle.schedule_replay.specs.declared.replay.Replay.{Replay}
use Rattle.line_fields.specs.Limits.{longest_line}
use Rattle.schedule_commands.specs.TextLines.{ended_lines, has_newline, is_settled, open_line}
use Rattle.schedule_commands.specs.declared.replay.Reading.{Reading}

-- bytes are a line, its newline, and the rest
pub record IsCut (bytes line rest : List ℕ) : Type 0 where
  pub is : bytes ≡ line ++ 10 ∷ rest
  pub whole : has_newline line ≡ false

-- of these bytes the lines that ended are run by a road, of which this is left, and the open one is kept
pub record IsBehind (reading : Reading) (whole left : Road) (read : List ℕ) : Type 0 where
  pub stage : Stage
  pub ran : run_lines (ended_lines read) 1 (Begins whole) ≡ Ok stage
  pub goes : road_of stage ≡ left
  pub shown : IsAt reading.schedule stage
  pub going : IsGoing reading.schedule
  pub number : reading.number ≡ length (ended_lines read) + 1
  pub line : reading.line.items ≡ open_line read
  pub short : length (open_line read) ≤ longest_line

-- so it is by every road that begins with what links gave
abbrev pub HasRead : (carried : Bool) → Reading → (gave : List (List ℕ)) → (read : List ℕ) → Type 0
HasRead carried reading gave read =
    (later : List (List ℕ)) → IsBehind reading (road_with carried (gave ++ later)) (road_with carried later) read

-- some bytes are read
abbrev pub IsOn : (carried : Bool) → Reading → Type 0
IsOn carried reading = (gave : List (List ℕ)) × (read : List ℕ) × HasRead carried reading gave read

-- a schedule that begins with these bytes leads to this fault by this road, whatever follows
pub record IsDecided (road : Road) (read : List ℕ) (fault : ReplayFault) : Type 0 where
  pub settled : is_settled road read ≡ true
  pub leads : (more : List ℕ) → outcome_on road (read ++ more) ≡ Err fault

-- these bytes are read, or they decide; a link that failed says nothing, nor does want of memory
abbrev pub Reads : Result Reading ReplayFault → (whole left : Road) → (read : List ℕ) → Type 0
Reads (Ok reading) whole left read = IsBehind reading whole left read
Reads (Err (BadInput line reason)) whole left read = IsDecided whole read (BadInput line reason)
Reads (Err (Broken b)) whole left read = IsDecided whole read (Broken b)
Reads (Err (Full messages bytes)) whole left read = IsDecided whole read (Full messages bytes)
Reads (Err LinkFault) whole left read = ⊤
Reads (Err WriteFault) whole left read = ⊥
Reads (Err NoMemory) whole left read = ⊤

-- behind what links gave and what was read, these gifts and this piece come to what they should, whatever links give
-- later
abbrev pub ReadsOn :
    (carried : Bool) → Reading → (piece : List ℕ) → Result Reading ReplayFault → (more : List (List ℕ)) → Type 0
ReadsOn carried reading piece result more =
    (gave later : List (List ℕ)) (read : List ℕ) → HasRead carried reading gave read →
    Reads result (road_with carried ((gave ++ more) ++ later)) (road_with carried later) (read ++ piece)

-- a schedule leads to this replay, or to this fault; a link that failed says nothing
abbrev pub Closes : Result Replay ReplayFault → Result ReplayValue ReplayFault → Type 0
Closes (Err LinkFault) should = ⊤
Closes result should = Ends result should

-- no link failed, nor is memory wanting
abbrev pub CanDecide : ReplayFault → Type 0
CanDecide LinkFault = ⊥
CanDecide WriteFault = ⊥
CanDecide NoMemory = ⊥
CanDecide fault = ⊤

-- a line may be refused so
abbrev pub CanEnd : ReplayFault → Type 0
CanEnd WriteFault = ⊥
CanEnd fault = ⊤
