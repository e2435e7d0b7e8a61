-- What is replayed so far.
use Rattle.std.specs.Prelude.{ℕ, List, [], Bool}
use Rattle.basil_types.specs.Setting.{Setting}
use Rattle.basil_types.specs.declared.party.Party.{Party}
use Rattle.cluster_run.specs.States.{KitValue, Setup, State}
use Rattle.journaled_runs.specs.Journaling.{JournaledState, first_state}
use Rattle.run_journals.specs.Journals.{JournalValue}
use Rattle.schedule_replay.specs.Roads.{Road}

-- the most messages of the pool
abbrev pub most_messages : ℕ
most_messages = 1000000

-- the most bytes of its frames
abbrev pub most_bytes : ℕ
most_bytes = 1073741824

-- a begun transaction: its name, and its client
pub record NamedValue : Type 0 where
  pub name : List ℕ
  pub client : ℕ

-- the begun transactions in their order, and of each the keys that lines had it read, ascending
pub record NamesValue : Type 0 where
  pub begun : List NamedValue
  pub keys : List (List (List ℕ))

-- what is fixed in the run, the names of its transactions, its state, the journals of its replicas, and the road of its
-- deliveries
pub record ReplayValue : Type 0 where
  pub setup : Setup
  pub names : NamesValue
  pub state : State
  pub journals : List JournalValue
  pub road : Road

-- its state and the journals
abbrev pub journaled : ReplayValue → JournaledState
journaled r = record { state = r.state; journals = r.journals }

-- the replay where its events have led to this, and its deliveries go on by this road
abbrev pub led : Road → JournaledState → ReplayValue → ReplayValue
led road x r = record r { state = x.state; journals = x.journals; road = road }

abbrev pub no_names : NamesValue
no_names = record { begun = []; keys = [] }

-- what a header says: the cluster, the first moment of its replicas, the kit, and whether they keep journals
pub record Opening : Type 0 where
  pub cluster : Setting
  pub clock : ℕ
  pub kit : KitValue
  pub journal : Bool

abbrev pub setup_of : Opening → List Party → Setup
setup_of o faulty = record {
  cluster = o.cluster;
  faulty = faulty;
  clock = o.clock;
  messages = most_messages;
  bytes = most_bytes;
  kit = o.kit;
}

-- behind a header and the lines that name these faulty parties
abbrev pub first_replay : Opening → List Party → Road → ReplayValue
first_replay o faulty road =
    let first = first_state (setup_of o faulty) o.journal in
    record {
      setup = setup_of o faulty;
      names = no_names;
      state = first.state;
      journals = first.journals;
      road = road;
    }

-- the same replay, whose deliveries take this road
abbrev pub along : Road → ReplayValue → ReplayValue
along road r = record r { road = road }
