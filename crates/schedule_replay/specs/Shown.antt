-- What a replay shows.
use Rattle.std.specs.Prelude.{◌≡◌, ℕ, List, ◌∷◌, ◌++◌, Bool, true, false, ⊤, Option, Result, Ok, Err}
use Rattle.basil_types.specs.Links.{LinkState}
use Rattle.cluster_run.specs.declared.fault.WorldFault.{WorldFault}
use Rattle.cluster_run.specs.declared.fault.WorldFault.TheVariants as world
use Rattle.cluster_world.specs.declared.fault.StepFault.{StepFault}
use Rattle.cluster_world.specs.declared.fault.StepFault.TheVariants as step
use Rattle.cluster_world.specs.Shows.{Shows}
use Rattle.journaled_runs.specs.Journaling.{JournaledState}
use Rattle.journaled_runs.specs.Shown.{KeepsAll}
use Rattle.replay_kit.specs.Made.{kit_value}
use Rattle.replay_kit.specs.Values.{replay_value}
use Rattle.schedule_text.specs.declared.line.Line.{Line}
use Rattle.schedule_text.specs.declared.line.Line.TheVariants.{Begin}
use Rattle.line_fields.specs.declared.reason.Reason.TheVariants.{RefusedCall}
use Rattle.schedule_replay.specs.declared.course.Course.{Course}
use Rattle.schedule_replay.specs.declared.fault.Halt.{Halt}
use Rattle.schedule_replay.specs.declared.fault.Halt.TheVariants as halt
use Rattle.report_lines.specs.declared.fault.ReplayFault.{ReplayFault}
use Rattle.report_lines.specs.declared.fault.ReplayFault.TheVariants.{BadInput, Broken, Full}
use Rattle.report_lines.specs.declared.fault.ReplayFault.TheVariants.{LinkFault, WriteFault, NoMemory}
use Rattle.schedule_replay.specs.declared.replay.Opening as code
use Rattle.schedule_replay.specs.Events.{deliver, deliver_all}
use Rattle.schedule_replay.specs.Names.{is_begun}
use Rattle.schedule_replay.specs.Replays.{NamesValue, Opening, ReplayValue, along, journaled, led}
use Rattle.schedule_replay.specs.Roads.{Carries, Road, road_with}

-- a replay shows these names, and a state of a run with these journals
pub record Stands (course : Course) (r : ReplayValue) : Type 0 where
  pub cluster : r.setup.cluster ≡ course.cluster
  pub names : r.names ≡ course.names
  pub shows : Shows r.setup course.world.core r.state
  pub journals : KeepsAll r.setup (kit_value course.world.kit) course.journals (journaled r)

-- what a header opens
abbrev pub opening_of : code.Opening → Opening
opening_of o =
    record { cluster = o.cluster; clock = o.clock; kit = replay_value o.cluster o.keys; journal = o.journal }

-- a call comes to what it should, by every road that begins with what its links gave
abbrev pub ByRoads : (carried : Bool) → (old new : Option LinkState) → Course → (ReplayValue → Road → Type 0) → Type 0
ByRoads carried old new course Should = Carries carried old new (λ gave.
    (r : ReplayValue) (later : List (List ℕ)) → Stands course r →
    Should (along (road_with carried (gave ++ later)) r) (road_with carried later))

-- ---- events

-- an event comes to this: the world and the journals show it, and the names are as before; a refusal is that
abbrev pub Goes : Result JournaledState WorldFault → ReplayValue → Course → Result (Unit {0}) StepFault → Type 0
Goes answer r course (Ok done) = (x : JournaledState) × (answer ≡ Ok x) × Stands course (led r.road x r)
Goes answer r course (Err (step.World (world.Broken b))) = answer ≡ Err (world.Broken b)
Goes answer r course (Err (step.World (world.PoolFull messages bytes))) =
    (answer ≡ Err (world.PoolFull messages bytes)) × Stands course r
Goes answer r course (Err (step.World (world.Call f))) = (answer ≡ Err (world.Call f)) × Stands course r
Goes answer r course (Err (step.World (world.Exhausted party))) =
    (answer ≡ Err (world.Exhausted party)) × Stands course r
Goes answer r course (Err step.NoMemory) = ⊤

-- ---- the events of a line

-- the first of these messages are delivered, and the rest is as before
pub record HasBegun (messages : List ℕ) (r : ReplayValue) (course : Course) : Type 0 where
  pub done : List ℕ
  pub left : List ℕ
  pub of_these : messages ≡ done ++ left
  pub reached : ReplayValue
  pub comes : deliver_all done r ≡ Ok reached
  pub stands : Stands course reached

-- as many of them as leave this road
pub record HasStopped (messages : List ℕ) (r : ReplayValue) (course : Course) (road : Road) : Type 0 where
  pub begun : HasBegun messages r course
  pub goes : begun.reached.road ≡ road

-- those before the one that is refused so
pub record HasFilled (messages : List ℕ) (r : ReplayValue) (course : Course) (fault : WorldFault) : Type 0 where
  pub begun : HasBegun messages r course
  pub refused : (message : ℕ) (behind : List ℕ) → begun.left ≡ message ∷ behind →
      deliver begun.reached message ≡ Err fault

-- events, which deliver these messages one after another, come to this, with this road left: the world shows it, and
-- the names are as before; a refusal is that; where a link failed, or there is no room, the messages before stay
-- delivered
abbrev pub Does :
    (messages : List ℕ) → Result ReplayValue WorldFault → ReplayValue → Course → Result (Unit {0}) Halt → Road → Type 0
Does messages answer r course (Ok done) road =
    (after : ReplayValue) × (answer ≡ Ok after) × Stands course after × (after.road ≡ road)
Does messages answer r course (Err (halt.World (world.Broken b))) road = answer ≡ Err (world.Broken b)
Does messages answer r course (Err (halt.World (world.PoolFull count bytes))) road =
    (answer ≡ Err (world.PoolFull count bytes)) × HasFilled messages r course (world.PoolFull count bytes)
Does messages answer r course (Err (halt.World (world.Call f))) road = (answer ≡ Err (world.Call f)) × Stands course r
Does messages answer r course (Err (halt.World (world.Exhausted party))) road =
    (answer ≡ Err (world.Exhausted party)) × Stands course r
Does messages answer r course (Err halt.Link) road = HasStopped messages r course road
Does messages answer r course (Err halt.NoMemory) road = ⊤

-- what a step of a world halts by
abbrev pub halt_of : StepFault → Halt
halt_of (step.World fault) = halt.World fault
halt_of step.NoMemory = halt.NoMemory

-- a breach, and want of memory, end a world
abbrev pub ends_world : Result (Unit {0}) Halt → Bool
ends_world (Err (halt.World (world.Broken b))) = true
ends_world (Err halt.NoMemory) = true
ends_world _ = false

-- it is no matter of a run
abbrev pub IsOfRoad : Halt → Type 0
IsOfRoad (halt.World fault) = ⊥
IsOfRoad _ = ⊤

-- whether a link failed
abbrev pub failed_by_link : {A : Type 0} → Result A Halt → Bool
failed_by_link (Err halt.Link) = true
failed_by_link _ = false

-- ---- lines

-- a name that a line begins is new
abbrev pub CanName : NamesValue → Line → Type 0
CanName names (Begin name client time) = is_begun names name ≡ false
CanName names _ = ⊤

-- what the fault of its events is of the line of this number
abbrev pub fault_by : (number : ℕ) → Halt → ReplayFault
fault_by number (halt.World (world.Broken b)) = Broken b
fault_by number (halt.World (world.PoolFull messages bytes)) = Full messages bytes
fault_by number (halt.World (world.Call f)) = BadInput number RefusedCall
fault_by number (halt.World (world.Exhausted party)) = BadInput number RefusedCall
fault_by number halt.Link = LinkFault
fault_by number halt.NoMemory = NoMemory

-- a line, which delivers these messages one after another, does what it should: Ok exactly where that is, and then the
-- replay shows it, with this road left; a refusal is that, and one by a reason leaves all as before; where a link
-- failed, or there is no room, the messages before stay delivered; a breach and want of memory end it
abbrev pub Did :
    (messages : List ℕ) → Result ReplayValue ReplayFault → ReplayValue → Course → Result (Unit {0}) ReplayFault → Road →
    Type 0
Did messages should before course (Ok done) road =
    (after : ReplayValue) × (should ≡ Ok after) × Stands course after × (after.road ≡ road)
Did messages should before course (Err (BadInput line reason)) road =
    (should ≡ Err (BadInput line reason)) × Stands course before
Did messages should before course (Err (Broken b)) road = should ≡ Err (Broken b)
Did messages should before course (Err (Full count bytes)) road =
    (should ≡ Err (Full count bytes)) × HasFilled messages before course (world.PoolFull count bytes)
Did messages should before course (Err LinkFault) road = HasStopped messages before course road
Did messages should before course (Err WriteFault) road = ⊥
Did messages should before course (Err NoMemory) road = ⊤

-- a link failed
abbrev pub is_of_link : ReplayFault → Bool
is_of_link LinkFault = true
is_of_link _ = false

abbrev pub is_link_fault : {A : Type 0} → Result A ReplayFault → Bool
is_link_fault (Ok done) = false
is_link_fault (Err fault) = is_of_link fault

-- ---- reports

-- the sink failed, or memory is wanting
abbrev pub IsOfReport : ReplayFault → Type 0
IsOfReport WriteFault = ⊤
IsOfReport NoMemory = ⊤
IsOfReport _ = ⊥
