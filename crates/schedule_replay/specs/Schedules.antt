-- At which stage a schedule is.
use Rattle.std.specs.Prelude.{◌≡◌, ℕ, List, [], ◌∷◌, ◌++◌, Bool, false, ⊤, Option, Some, None, Result, Ok, Err}
use Rattle.basil_types.specs.Links.{LinkState}
use Rattle.basil_types.specs.declared.party.Party.{Party}
use Rattle.report_lines.specs.declared.fault.ReplayFault.{ReplayFault}
use Rattle.report_lines.specs.declared.fault.ReplayFault.TheVariants.{BadInput, Broken, Full}
use Rattle.report_lines.specs.declared.fault.ReplayFault.TheVariants.{LinkFault, WriteFault, NoMemory}
use Rattle.line_fields.specs.declared.reason.Reason.{Reason}
use Rattle.schedule_replay.specs.declared.replay.Replay.{Replay}
use Rattle.schedule_replay.specs.declared.stages.Opened.{Opened}
use Rattle.schedule_replay.specs.declared.stages.Schedule.{Schedule}
use Rattle.schedule_replay.specs.declared.stages.Schedule.TheVariants as schedules
use Rattle.schedule_replay.specs.Replays.{ReplayValue}
use Rattle.schedule_replay.specs.Shown.{Stands, opening_of}
use Rattle.schedule_replay.specs.Roads.{Carries, Road, road_with}
use Rattle.schedule_replay.specs.Stages.{Stage, Begins, Opens, Runs, faulty_reason, on_road, road_of}

abbrev pub IsAt : Schedule → Stage → Type 0
IsAt schedules.Begins (Begins road) = ⊤
IsAt (schedules.Opens o) (Opens opening faulty road) = (opening ≡ opening_of o.opening) × (faulty ≡ o.faulty.value)
IsAt (schedules.Runs replay) (Runs r) = Stands replay.course.value r
IsAt schedule stage = ⊥

-- its replay hasn't ended
abbrev pub IsGoing : Schedule → Type 0
IsGoing (schedules.Runs replay) = replay.ended ≡ false
IsGoing schedule = ⊤

-- a fault is what it should be; want of memory says nothing
abbrev pub Faults : {A : Type 0} → Result A ReplayFault → ReplayFault → Type 0
Faults should (BadInput line reason) = should ≡ Err (BadInput line reason)
Faults should (Broken b) = should ≡ Err (Broken b)
Faults should (Full messages bytes) = should ≡ Err (Full messages bytes)
Faults should LinkFault = ⊥
Faults should WriteFault = ⊥
Faults should NoMemory = ⊤

-- it is at this stage, whose road is this one
pub record IsOn (schedule : Schedule) (road : Road) (stage : Stage) : Type 0 where
  pub shown : IsAt schedule stage
  pub going : IsGoing schedule
  pub goes : road_of stage ≡ road

-- lines lead to this stage, with this road, or to this fault, or a link failed
abbrev pub Took : Result Schedule ReplayFault → Result Stage ReplayFault → Road → Type 0
Took (Ok schedule) should road = (stage : Stage) × (should ≡ Ok stage) × IsOn schedule road stage
Took (Err LinkFault) should road = ⊤
Took (Err fault) should road = Faults should fault

-- a call at a stage comes to what it should, by every road that begins with what its links gave
abbrev pub ByRoads : (carried : Bool) → (old new : Option LinkState) → Schedule → (Stage → Road → Type 0) → Type 0
ByRoads carried old new schedule Should = Carries carried old new (λ gave.
    (stage : Stage) (later : List (List ℕ)) → IsAt schedule stage →
    Should (on_road (road_with carried (gave ++ later)) stage) (road_with carried later))

-- a schedule leads to this replay, or to this fault
abbrev pub Ends : Result Replay ReplayFault → Result ReplayValue ReplayFault → Type 0
Ends (Ok replay) should = (r : ReplayValue) × (should ≡ Ok r) × Stands replay.course.value r
Ends (Err fault) should = Faults should fault

-- a line of this number names one more faulty party, or is refused
abbrev pub Joins : Opened → Opened → (number : ℕ) → Party → Result (Unit {0}) ReplayFault → Type 0
Joins old new number party (Ok done) =
    (faulty_reason old.opening.cluster old.faulty.value party ≡ None)
    × (new.faulty.value ≡ old.faulty.value ++ party ∷ []) × (new.opening ≡ old.opening)
Joins old new number party (Err fault) =
    (reason : Reason) × (faulty_reason old.opening.cluster old.faulty.value party ≡ Some reason)
    × (fault ≡ BadInput number reason)
