-- Whose the journals of a run are.
use Rattle.std.specs.Prelude.{◌≡◌, ℕ, ◌&&◌, List, Bool, not, nat_lt, is_some, Ok}
use Rattle.basil_types.specs.declared.party.Party.TheVariants.{Replica}
use Rattle.journal_disk.specs.declared.disk.Stop.{Stop}
use Rattle.quorum_laws.specs.Numbers.{replicas}
use Rattle.run_journals.specs.Journals.{JournalValue, journal_at}
use Rattle.cluster_run.specs.Events.{EventValue}
use Rattle.cluster_run.specs.States.{Setup, is_faulty}
use Rattle.journaled_runs.specs.Journaling.{JournaledState, first_journals, happens_in, stops_in}

-- whether a replica keeps a journal: where replicas do, each correct one of the cluster
abbrev pub keeps_journal : Setup → (journal : Bool) → (shard index : ℕ) → Bool
keeps_journal s journal shard index =
    journal && (nat_lt shard s.cluster.shards && (nat_lt index (replicas s.cluster.f)
    && not (is_faulty s (Replica shard index))))

-- the same replicas have one
abbrev pub SameOwners : (before after : List JournalValue) → Type 0
SameOwners before after =
    (shard index : ℕ) → is_some (journal_at after shard index) ≡ is_some (journal_at before shard index)

-- before the first event those that keep a journal have one
abbrev pub OwnersAreCorrect : Type 0
OwnersAreCorrect =
    (s : Setup) (journal : Bool) (shard index : ℕ) →
    is_some (journal_at (first_journals s journal) shard index) ≡ keeps_journal s journal shard index

-- an event adds no journal and takes none away
abbrev pub OwnersStay : Type 0
OwnersStay =
    (s : Setup) (e : EventValue) (x y : JournaledState) → happens_in s e x ≡ Ok y → SameOwners x.journals y.journals

-- nor does a stop
abbrev pub OwnersOutlastStops : Type 0
OwnersOutlastStops =
    (s : Setup) (message shard index : ℕ) (stop : Stop) (given : List ℕ) (x y : JournaledState) →
    stops_in s message shard index stop given x ≡ Ok y → SameOwners x.journals y.journals
