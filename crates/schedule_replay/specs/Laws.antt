-- What holds of every schedule.
use Rattle.std.specs.Prelude.{◌≡◌, ℕ, ◌+◌, List, ◌∷◌, ◌++◌, length, Ok, Err}
use Rattle.basil_types.specs.Steps.{◌>>=◌}
use Rattle.cluster_run.specs.Breaking.{IsSafeUntil}
use Rattle.cluster_run.specs.Events.{EventValue, run}
use Rattle.cluster_run.specs.Headline.{IsSafe}
use Rattle.cluster_run.specs.Safety.{AreEvents, AreSigned}
use Rattle.cluster_run.specs.States.{Setup, IsSetup, start}
use Rattle.cluster_run.specs.declared.fault.WorldFault.TheVariants as world
use Rattle.premise_watch.specs.declared.broken.Broken.{Broken}
use Rattle.schedule_replay.specs.Events.{line_does}
use Rattle.schedule_replay.specs.Outcomes.{replay_on, outcome_on}
use Rattle.schedule_replay.specs.Replays.{ReplayValue}
use Rattle.schedule_replay.specs.Reports.{report}
use Rattle.schedule_replay.specs.Roads.{Road}
use Rattle.schedule_replay.specs.Stages.{Begins, ended, run_lines}
use Rattle.report_lines.specs.declared.fault.ReplayFault.TheVariants as fault
use Rattle.schedule_text.specs.Reading.{line_at}
use Rattle.line_fields.specs.TextLines.{lines_of}
use Rattle.schedule_text.specs.declared.line.Line.{Line}

-- at most f replicas of each shard are faulty, and what clients sign fits a frame
pub record IsSound (s : Setup) : Type 0 where
  pub setup : IsSetup s
  pub signed : AreSigned s.kit

-- a replay has its state by a run of events
pub record IsReplayed (r : ReplayValue) : Type 0 where
  pub sound : IsSound r.setup
  pub events : List EventValue
  pub sized : AreEvents events
  pub ends : run r.setup events (start r.setup) ≡ Ok r.state

-- a report is that of a run, and the run is safe
pub record IsSafeReport (road : Road) (bytes text : List ℕ) : Type 0 where
  pub replay : ReplayValue
  pub replayed : replay_on road bytes ≡ Ok replay
  pub told : text ≡ report replay
  pub ran : IsReplayed replay
  pub safe : IsSafe replay.setup replay.state

abbrev pub ReportsAreSafe : Type 0
ReportsAreSafe =
    (road : Road) (bytes text : List ℕ) → outcome_on road bytes ≡ Ok text → IsSafeReport road bytes text

-- a schedule ends in a breach at a line: the lines before it led to a replay, whose run this line's events take to the
-- breach, and the run is safe until there
pub record IsRealBreak (road : Road) (bytes : List ℕ) (b : Broken) : Type 0 where
  pub before : List (List ℕ)
  pub line : List ℕ
  pub after : List (List ℕ)
  pub parts : lines_of bytes ≡ before ++ line ∷ after
  pub replay : ReplayValue
  pub reached : (run_lines before 1 (Begins road) >>= ended) ≡ Ok replay
  pub ran : IsReplayed replay
  pub value : Line
  pub read : line_at line (1 + length before) ≡ Ok value
  pub broke : line_does replay value ≡ Err (world.Broken b)
  pub events : List EventValue
  pub until : IsSafeUntil replay.setup (ran.events ++ events) b

abbrev pub BreaksAreReal : Type 0
BreaksAreReal =
    (road : Road) (bytes : List ℕ) (b : Broken) →
    outcome_on road bytes ≡ Err (fault.Broken b) → IsRealBreak road bytes b
