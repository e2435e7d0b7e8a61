-- What the parts of a report answer.
use Rattle.std.specs.Prelude.{◌≡◌, ℕ, ◌++◌, List, Option, Some, None, drop, option_map, if◌then◌else◌}
use Rattle.std.specs.Map.{lookup}
use Rattle.std.specs.Option.{option_or}
use Rattle.std.specs.Str.{bytes_eq}
use Rattle.cluster_run.specs.States.{State}
use Rattle.schedule_replay.specs.declared.course.Course.{Course}
use Rattle.schedule_replay.specs.Names.{keys_of}
use Rattle.schedule_replay.specs.Naming.{name_at}
use Rattle.schedule_replay.specs.Replays.{ReplayValue}
use Rattle.report_lines.specs.Lines.{fate_line}
use Rattle.schedule_replay.specs.Reports.{decided, first_name, has_id, read_lines}
use Rattle.schedule_replay.specs.Shown.{Stands}

-- ---- places of ids

-- each is that of a transaction, from 0
abbrev pub Placed : Type 0
Placed = List (List ℕ × ℕ)

-- the name of the transaction at the place of an id
abbrev pub name_placed : ReplayValue → Placed → (named : List ℕ) → Option (List ℕ)
name_placed r places named = option_map (name_at r.names) (lookup (bytes_eq named) places)

-- the place of a transaction with this id
abbrev pub place_of : State → (named : List ℕ) → (tx : ℕ) → Option ℕ
place_of st named tx = if has_id st named tx then Some tx else None

-- an id without a place has that of this transaction, where it is formed with it
abbrev pub AddsPlace : State → (tx : ℕ) → Placed → Placed → Type 0
AddsPlace st tx old new =
    (named : List ℕ) → lookup (bytes_eq named) new ≡ option_or (lookup (bytes_eq named) old) (place_of st named tx)

-- the transactions below this one have their places
abbrev pub FirstBelow : Placed → ReplayValue → (tx : ℕ) → Type 0
FirstBelow places r tx = (named : List ℕ) → first_name r.state named 0 r.names.begun
    ≡ option_or (name_placed r places named) (first_name r.state named tx (drop tx r.names.begun))

-- all have: an id's place is that of the first transaction that is formed with it
abbrev pub AreFirst : Placed → ReplayValue → Type 0
AreFirst places r = (named : List ℕ) → first_name r.state named 0 r.names.begun ≡ name_placed r places named

-- ---- what is reported

-- a course shows a replay, and these places are those of its ids
pub record Tells (course : Course) (places : Placed) (r : ReplayValue) : Type 0 where
  pub stands : Stands course r
  pub first : AreFirst places r

-- the lines of a transaction
abbrev pub transaction_lines : ReplayValue → (tx : ℕ) → List ℕ
transaction_lines r tx =
    fate_line (name_at r.names tx) (decided r.state tx) ++ read_lines r tx (name_at r.names tx) (keys_of r.names tx)
