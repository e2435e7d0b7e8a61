-- The stages of a schedule, and its lines.
use Rattle.std.specs.Prelude.{◌≡◌, ℕ, ◌+◌, List, [], ◌∷◌, ◌++◌, Bool, true, not}
use Rattle.std.specs.Prelude.{Option, option_map, Result, Ok, Err, if◌then◌else◌}
use Rattle.basil_types.specs.Built.{or_else}
use Rattle.basil_types.specs.Setting.{Setting}
use Rattle.basil_types.specs.Steps.{◌>>=◌}
use Rattle.basil_types.specs.declared.party.Party.{Party}
use Rattle.cluster_run.specs.States.{KitValue}
use Rattle.keyring_lms.specs.Replay.{is_party_of}
use Rattle.node_steps.specs.Refusing.{when, unless}
use Rattle.premise_watch.specs.Parties.{can_join, is_among}
use Rattle.schedule_text.specs.Reading.{line_at, is_skipped}
use Rattle.schedule_text.specs.declared.line.Line.{Line}
use Rattle.schedule_text.specs.declared.line.Line.TheVariants.{Header, Skipped, Faulty}
use Rattle.schedule_text.specs.declared.line.LineFault.{LineFault}
use Rattle.schedule_text.specs.declared.line.LineFault.TheVariants as line_fault
use Rattle.line_fields.specs.declared.reason.Reason.{Reason}
use Rattle.line_fields.specs.declared.reason.Reason.TheVariants.{NoHeader, OutOfRange, CannotBeFaulty}
use Rattle.schedule_replay.specs.Kits.{kit_of}
use Rattle.schedule_replay.specs.Lines.{line_step, bad_line}
use Rattle.schedule_replay.specs.Replays.{Opening, ReplayValue, along, first_replay}
use Rattle.schedule_replay.specs.Roads.{Road}
use Rattle.report_lines.specs.declared.fault.ReplayFault.{ReplayFault}
use Rattle.report_lines.specs.declared.fault.ReplayFault.TheVariants.{BadInput, NoMemory}

pub data Stage : Type 0 where
  -- no line came yet that isn't skipped
  Begins : (road : Road) → Stage
  -- the header came, and lines that name these faulty parties
  Opens : (opening : Opening) (faulty : List Party) (road : Road) → Stage
  -- another line came
  Runs : (replay : ReplayValue) → Stage

-- ---- the road of its deliveries

abbrev pub road_of : Stage → Road
road_of (Begins road) = road
road_of (Opens o faulty road) = road
road_of (Runs r) = r.road

-- the same stage with this road
abbrev pub on_road : Road → Stage → Stage
on_road road (Begins other) = Begins road
on_road road (Opens o faulty other) = Opens o faulty road
on_road road (Runs r) = Runs (along road r)

-- ---- the header

abbrev pub opened : Road → Setting → (clock : ℕ) → (journal : Bool) → KitValue → Stage
opened road c clock journal kit =
    Opens (record { cluster = c; clock = clock; kit = kit; journal = journal }) [] road

abbrev pub first_line : Road → (number : ℕ) → Line → Result Stage ReplayFault
first_line road number (Header cluster clock keys journal) =
    Ok (opened road cluster clock journal (kit_of cluster keys))
first_line road number Skipped = Ok (Begins road)
first_line road number _ = Err (BadInput number NoHeader)

-- the first line that isn't skipped is reason 1 where it is refused for anything
abbrev pub bad_first : List ℕ → (number : ℕ) → LineFault → ReplayFault
bad_first line number (line_fault.BadLine n reason) = BadInput number (if is_skipped line then reason else NoHeader)
bad_first line number line_fault.NoMemory = NoMemory

-- ---- faulty parties

-- each of them is one of the cluster's
abbrev pub AreParties : Setting → List Party → Type 0
AreParties c parties = (p : Party) → is_among parties p ≡ true → is_party_of c p ≡ true

-- a party that isn't one of the cluster, or is named twice, or would be one too many of its shard
abbrev pub faulty_reason : Setting → List Party → Party → Option Reason
faulty_reason c faulty party =
    or_else (when (not (is_party_of c party)) OutOfRange) (when (not (can_join c.f faulty party)) CannotBeFaulty)

abbrev pub opening_line : Opening → List Party → Road → (number : ℕ) → Line → Result Stage ReplayFault
opening_line o faulty road number (Faulty party) =
    unless (option_map (BadInput number) (faulty_reason o.cluster faulty party)) (Opens o (faulty ++ party ∷ []) road)
opening_line o faulty road number Skipped = Ok (Opens o faulty road)
opening_line o faulty road number line = line_step (first_replay o faulty road) line number >>= λ r. Ok (Runs r)

-- ---- the lines

abbrev pub read_line : Stage → (line : List ℕ) → (number : ℕ) → Result Line LineFault → Result Stage ReplayFault
read_line (Begins road) line number (Ok value) = first_line road number value
read_line (Begins road) line number (Err e) = Err (bad_first line number e)
read_line (Opens o faulty road) line number (Ok value) = opening_line o faulty road number value
read_line (Opens o faulty road) line number (Err e) = Err (bad_line line number e)
read_line (Runs r) line number (Ok value) = line_step r value number >>= λ r. Ok (Runs r)
read_line (Runs r) line number (Err e) = Err (bad_line line number e)

-- what the line of this number does
abbrev pub stage_step : Stage → (line : List ℕ) → (number : ℕ) → Result Stage ReplayFault
stage_step stage line number = read_line stage line number (line_at line number)

-- the lines from this number on
abbrev pub run_lines : List (List ℕ) → (number : ℕ) → Stage → Result Stage ReplayFault
run_lines [] number stage = Ok stage
run_lines (line ∷ lines) number stage = stage_step stage line number >>= run_lines lines (number + 1)

-- behind the last line; a schedule without a header is refused at line 1
abbrev pub ended : Stage → Result ReplayValue ReplayFault
ended (Begins road) = Err (BadInput 1 NoHeader)
ended (Opens o faulty road) = Ok (first_replay o faulty road)
ended (Runs r) = Ok r
