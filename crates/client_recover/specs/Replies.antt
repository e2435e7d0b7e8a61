-- The log replies that a pursuit keeps.
use Rattle.std.specs.Prelude.{◌≡◌, ℕ, ◌+◌, ◌≤◌, Bool, ◌&&◌, ◌==◌, not, nat_lt, List, true, Option, Some, None}
use Rattle.std.specs.Prelude.{option_map}
use Rattle.std.specs.Prelude.{filter, length, is_some, if◌then◌else◌}
use Rattle.std.specs.Prelude.{nat_eq}
use Rattle.indexmap.specs.IndexMap.{get}
use Rattle.basil_types.specs.declared.party.Decision.{Decision}
use Rattle.basil_types.specs.Decision.{same_decision, is_commit}
use Rattle.frame_values.specs.declared.owned.parts.LogPart.{LogPart}
use Rattle.frame_values.specs.declared.owned.parts.InvokePart.{InvokePart}
use Rattle.frame_views.specs.Values.{LogReplyValue}
use Rattle.node_steps.specs.Lists.{first_with}
use Rattle.client_recover.specs.declared.logs.Logs.{Logs}
use Rattle.client_recover.specs.declared.logs.LastLog.{LastLog}
use Rattle.client_recover.specs.declared.logs.Latest.{Latest}
use Rattle.client_recover.specs.declared.logs.Latest.TheVariants as latest
pub use Rattle.client_recover.specs.Firsts.{part_at, same_key}
use Rattle.client_recover.specs.Pursuits.{latest_by}
use Rattle.client_recover.specs.Kept.{as_part, as_latest}

abbrev pub LogReplies : Type 0
LogReplies = List LogReplyValue

-- ---- what is looked up

-- of a decision, the view in which it was decided and a replica
abbrev pub earliest_at : Logs → Decision → ℕ → ℕ → Option LogPart
earliest_at l d view replica = part_at l.earliest (is_commit d, view) replica

-- none is of a replica from this number on
abbrev pub AreBelow : (replicas : ℕ) → Logs → Type 0
AreBelow replicas l = (d : Decision) (view replica : ℕ) → replicas ≤ replica → earliest_at l d view replica ≡ None

abbrev pub latest_at : Logs → ℕ → Option InvokePart
latest_at l replica = get nat_eq l.latest replica

-- ---- what it stands for

abbrev pub says : Decision → ℕ → LogReplyValue → Bool
says d view r = same_decision d r.decision && (view == r.decided)

abbrev pub earliest_of : List LogReplyValue → Decision → ℕ → ℕ → Option LogPart
earliest_of replies d view replica =
    option_map as_part (first_with (λ (r : LogReplyValue). r.replica) (filter (says d view) replies) replica)

abbrev pub latest_of : List LogReplyValue → ℕ → Option InvokePart
latest_of replies replica = option_map as_latest (latest_by replies replica)

-- these log replies were taken
pub record HoldsLogs (l : Logs) (replies : List LogReplyValue) : Type 0 where
  pub earliest : (d : Decision) (view replica : ℕ) → earliest_at l d view replica ≡ earliest_of replies d view replica
  pub latest : (replica : ℕ) → latest_at l replica ≡ latest_of replies replica
  pub count : l.count ≡ length replies

-- ---- before the last one

abbrev pub is_last : LastLog → Decision → ℕ → ℕ → Bool
is_last last d view replica =
    same_key (is_commit last.decision, last.decided, last.replica) (is_commit d, view, replica)

-- the last one stood alone
abbrev pub earliest_back : LastLog → Logs → Decision → ℕ → ℕ → Option LogPart
earliest_back last l d view replica =
    if last.first && is_last last d view replica then None else earliest_at l d view replica

abbrev pub put_back : Latest → Option InvokePart → Option InvokePart
put_back latest.Kept now = now
put_back latest.New now = None
put_back (latest.Replaced part) now = Some part

abbrev pub latest_back : LastLog → Logs → ℕ → Option InvokePart
latest_back last l replica =
    if last.replica == replica then put_back last.latest (latest_at l replica) else latest_at l replica

-- what was replaced has a place
abbrev pub HasPlace : Latest → Option InvokePart → Type 0
HasPlace latest.Kept now = Unit {0}
HasPlace latest.New now = Unit {0}
HasPlace (latest.Replaced part) now = is_some now ≡ true

-- with this last one taken back, these log replies were taken
pub record HoldsBefore (last : LastLog) (l : Logs) (replies : List LogReplyValue) : Type 0 where
  pub earliest :
      (d : Decision) (view replica : ℕ) → earliest_back last l d view replica ≡ earliest_of replies d view replica
  pub latest : (replica : ℕ) → latest_back last l replica ≡ latest_of replies replica
  pub there : HasPlace last.latest (latest_at l last.replica)
  pub count : l.count ≡ length replies + 1

-- ---- changes

pub record SameLogs (old new : Logs) : Type 0 where
  pub earliest : (d : Decision) (view replica : ℕ) → earliest_at new d view replica ≡ earliest_at old d view replica
  pub latest : (replica : ℕ) → latest_at new replica ≡ latest_at old replica
  pub count : new.count ≡ old.count

abbrev pub is_of : LogReplyValue → Decision → ℕ → ℕ → Bool
is_of r d view replica = same_key (is_commit r.decision, r.decided, r.replica) (is_commit d, view, replica)

-- a log reply that is its replica's first for its decision and view is kept as such
pub record NotesFirst (old new : Logs) (r : LogReplyValue) (first : Bool) : Type 0 where
  pub is : first ≡ not (is_some (earliest_at old r.decision r.decided r.replica))
  pub earliest :
      (d : Decision) (view replica : ℕ) →
      earliest_at new d view replica
      ≡ (if first && is_of r d view replica then Some (as_part r) else earliest_at old d view replica)
  pub latest : (replica : ℕ) → latest_at new replica ≡ latest_at old replica
  pub count : new.count ≡ old.count

pub record ForgetsFirst (old new : Logs) (d : Decision) (view replica : ℕ) : Type 0 where
  pub earliest :
      (e : Decision) (v r : ℕ) →
      earliest_at new e v r
      ≡ (if same_key (is_commit d, view, replica) (is_commit e, v, r) then None else earliest_at old e v r)
  pub latest : (replica : ℕ) → latest_at new replica ≡ latest_at old replica
  pub count : new.count ≡ old.count

-- the later of this one and of what there is
abbrev pub latest_with : LogReplyValue → Option InvokePart → Option InvokePart
latest_with r None = Some (as_latest r)
latest_with r (Some best) = if nat_lt best.current r.current then Some (as_latest r) else Some best

-- a log reply is kept as its replica's latest where it is, beside what that one was
pub record NotesLatest (old new : Logs) (r : LogReplyValue) (before : Latest) : Type 0 where
  pub latest :
      (replica : ℕ) →
      latest_at new replica
      ≡ (if r.replica == replica then latest_with r (latest_at old replica) else latest_at old replica)
  pub back : put_back before (latest_at new r.replica) ≡ latest_at old r.replica
  pub there : HasPlace before (latest_at new r.replica)
  pub earliest : (d : Decision) (view replica : ℕ) → earliest_at new d view replica ≡ earliest_at old d view replica
  pub count : new.count ≡ old.count

-- what a replica's latest was is so again, if it has a place
pub record RestoresLatest (old new : Logs) (replica : ℕ) (before : Latest) : Type 0 where
  pub latest :
      HasPlace before (latest_at old replica) → (r : ℕ) →
      latest_at new r ≡ (if replica == r then put_back before (latest_at old r) else latest_at old r)
  pub earliest : (d : Decision) (view r : ℕ) → earliest_at new d view r ≡ earliest_at old d view r
  pub count : new.count ≡ old.count

-- these logs are those before the last log reply
pub record IsBefore (last : LastLog) (before now : Logs) : Type 0 where
  pub earliest :
      (d : Decision) (view replica : ℕ) → earliest_back last now d view replica ≡ earliest_at before d view replica
  pub latest : (replica : ℕ) → latest_back last now replica ≡ latest_at before replica
  pub there : HasPlace last.latest (latest_at now last.replica)
  pub count : now.count ≡ before.count + 1
