-- Laws of replicas that start again.
use Rattle.std.specs.Prelude.{◌≡◌, ◌++◌, List, Some}
use Rattle.basil_types.specs.Limits.{IsU64}
use Rattle.replica_core.specs.Replicas.{ReplicaSelf, BookValue}
use Rattle.replica_laws.specs.Steps.{Handed, book_after, signed_in}
use Rattle.node_journal.specs.Entries.{entry_of, handed_in}

-- an entry is read as what it was written for
abbrev pub EntriesAreRead : Type 0
EntriesAreRead = (h : Handed) → IsU64 h.now → handed_in (entry_of h) ≡ Some h

-- what some frames signed stays signed after more
abbrev pub WordsAreKept : Type 0
WordsAreKept =
    (me : ReplicaSelf) (book : BookValue) (hs more : List Handed) →
    signed_in me book (hs ++ more) ≡ signed_in me book hs ++ signed_in me (book_after me book hs) more
