-- A run whose replicas write down what they take.
use Rattle.std.specs.Prelude.{ℕ, ◌+◌, ◌-◌, ◌++◌, List, [], ◌∷◌, length, filter, map, Bool, true, false, not}
use Rattle.std.specs.Prelude.{Option, Some, None, option_and_then, Result, Ok, if◌then◌else◌}
use Rattle.std.specs.List.{range_with_len}
use Rattle.std.specs.Option.{option_map_or}
use Rattle.basil_types.specs.Steps.{◌>>=◌}
use Rattle.basil_types.specs.declared.party.Party.{Party}
use Rattle.basil_types.specs.declared.party.Party.TheVariants.{Replica}
use Rattle.journal_disk.specs.declared.disk.Stop.{Stop}
use Rattle.node_journal.specs.Journals.{journal_bytes}
use Rattle.node_steps.specs.Refusing.{unless_refused, when}
use Rattle.replica_laws.specs.Steps.{Handed}
use Rattle.run_journals.specs.declared.took.Took.TheVariants.{Taken}
use Rattle.run_journals.specs.Journals.{JournalValue, after_take, fresh, is_full_for, journal_at, keeps_record, put_at}
use Rattle.txn_table.specs.Entries.{same_party}
use Rattle.cluster_run.specs.declared.fault.WorldFault.{WorldFault}
use Rattle.cluster_run.specs.declared.fault.WorldFault.TheVariants.{PoolFull}
use Rattle.cluster_run.specs.Events.{EventValue, Deliver, Divert, Lose, happens}
use Rattle.cluster_run.specs.States.{Posted, Setup, Standing, State, is_faulty, posted_at, start}
use Rattle.delivery_laws.specs.Deliveries.{Taking, takes}

-- the state of a run, and the journals of its replicas: none of a run without journals
pub record JournaledState : Type 0 where
  pub state : State
  pub journals : List JournalValue

-- ---- one event

-- why a frame isn't taken: with its record the journal would be too long; what it has is told: records and bytes
abbrev pub full_by : Handed → JournalValue → Option WorldFault
full_by h journal = when (is_full_for journal h) (PoolFull (length journal.taken) (journal_bytes journal.taken))

-- of the journal of the replica that takes it, if it has one
abbrev pub full : List JournalValue → Option Taking → Option WorldFault
full journals None = None
full journals (Some t) = option_and_then (full_by t.handed) (journal_at journals t.shard t.index)

-- the journals after what a replica takes
abbrev pub written : Option Taking → List JournalValue → List JournalValue
written None journals = journals
written (Some t) journals =
    put_at (λ journal. after_take journal t.handed Taken) (journal_at journals t.shard t.index) journals

-- the event leaves this state, and what a replica took is written down
abbrev pub with_state : Option Taking → List JournalValue → State → Result JournaledState WorldFault
with_state taking journals st = Ok (record { state = st; journals = written taking journals })

-- an event happens, and what a replica takes then is written down; nothing happens where the journal is full
abbrev pub happens_in : Setup → EventValue → JournaledState → Result JournaledState WorldFault
happens_in s e x =
    let taking = takes s x.state e in
    unless_refused (full x.journals taking) (happens s e x.state >>= with_state taking x.journals)

-- ---- stops

-- whether the message of this number is sent to this party
abbrev pub is_to : State → (message : ℕ) → Party → Bool
is_to st message to = option_map_or (λ (p : Posted). same_party to p.to) (posted_at st message) false

-- a message is handed to a replica: it is delivered to its receiver, and diverted to another
abbrev pub handing : State → (message shard index : ℕ) → (given : List ℕ) → EventValue
handing st message shard index given =
    if is_to st message (Replica shard index) then Deliver message given
    else Divert message (Replica shard index) given

-- these messages are lost, one after another
abbrev pub lose_all : Setup → List ℕ → JournaledState → Result JournaledState WorldFault
lose_all s [] x = Ok x
lose_all s (m ∷ ms) x = happens_in s (Lose m) x >>= lose_all s ms

-- the numbers of the messages that entered the pool since it had so many
abbrev pub entered_since : (before : ℕ) → State → List ℕ
entered_since before st = range_with_len (before + 1) (length st.pool - before)

-- the disk of a journal has stopped so
abbrev pub with_stop : Stop → JournalValue → JournalValue
with_stop stop journal = record journal { stops = journal.stops ++ stop ∷ [] }

-- that of the replica that takes has, as its journal tells
abbrev pub noted : Taking → Stop → JournaledState → JournaledState
noted t stop x =
    record x { journals = put_at (with_stop stop) (journal_at x.journals t.shard t.index) x.journals }

-- a disk stops within a write of the record of what a replica takes: where the record is kept the event happens, and
-- the messages that enter then are lost; else it is left out
abbrev pub stopped : Setup → Stop → EventValue → Taking → JournaledState → Result JournaledState WorldFault
stopped s stop e t x =
    unless_refused (full x.journals (Some t))
    (if keeps_record stop.write stop.bytes
    then happens_in s e x >>= (λ y. lose_all s (entered_since (length x.state.pool) y.state) (noted t stop y))
    else Ok (noted t stop x))

-- a message is handed to a replica whose disk stops within a write of its record; of a frame that isn't taken nothing
-- is written, and no disk stops
abbrev pub stops_in : Setup → (message shard index : ℕ) → Stop → (given : List ℕ) → JournaledState →
    Result JournaledState WorldFault
stops_in s message shard index stop given x =
    let e = handing x.state message shard index given in
    option_map_or (λ t. stopped s stop e t x) (takes s x.state e) (happens_in s e x)

-- ---- the start

-- that a replica is correct
abbrev pub is_correct : Setup → Standing → Bool
is_correct s x = not (is_faulty s (Replica x.shard x.index))

abbrev pub fresh_of : Standing → JournalValue
fresh_of x = fresh x.shard x.index

-- the journals of the correct ones of these replicas, before the first event
abbrev pub fresh_journals : Setup → List Standing → List JournalValue
fresh_journals s replicas = map fresh_of (filter (is_correct s) replicas)

-- before the first event: of each correct replica, shard by shard; none where replicas don't write
abbrev pub first_journals : Setup → (journal : Bool) → List JournalValue
first_journals s true = fresh_journals s (start s).replicas
first_journals s false = []

abbrev pub first_state : Setup → (journal : Bool) → JournaledState
first_state s journal = record { state = start s; journals = first_journals s journal }
