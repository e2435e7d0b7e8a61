-- Of two transactions that conflict a replica lets only one stand.
use Rattle.std.specs.Prelude.{◌≡◌, ◌⊎◌, ℕ, true, List, Some, slice_get}
use Rattle.basil_types.specs.declared.party.Decision.TheVariants.{Abort}
use Rattle.txn_meta.specs.Conflicts.{conflict_in}
use Rattle.txn_table.specs.declared.released.Home.{Home}
use Rattle.txn_table.specs.Entries.{EntryValue, OutcomeValue, decision_of}
use Rattle.mvtso_check.specs.Book.{waits_or_commits}
use Rattle.node_steps.specs.Pens.{PenValue}
use Rattle.replica_core.specs.Replicas.{ReplicaSelf, BookValue, empty_book}
use Rattle.replica_laws.specs.Steps.{Handed, book_after}

abbrev pub IsAborted : EntryValue → Type 0
IsAborted e = decision_of e ≡ Some Abort

-- they conflict on a key of the shard, and each waits or has voted to commit
pub record BothStand (home : Home) (e f : EntryValue) : Type 0 where
  pub conflict : conflict_in home.cluster home.shard e.transaction f.transaction ≡ true
  pub one : waits_or_commits e.vote ≡ true
  pub other : waits_or_commits f.vote ≡ true

-- from the empty book on, one of two such has an abort outcome
abbrev pub OneIsAborted : Type 0
OneIsAborted =
    (me : ReplicaSelf) (pen : PenValue) (hs : List Handed) (p q : ℕ) (e f : EntryValue) →
    let entries = (book_after me (empty_book pen) hs).entries in
    slice_get entries p ≡ Some e → slice_get entries q ≡ Some f → BothStand me.home e f → IsAborted e ⊎ IsAborted f

-- what has an outcome keeps it, and its vote stays as it is
abbrev pub EndedNeverVote : Type 0
EndedNeverVote =
    (me : ReplicaSelf) (book : BookValue) (hs : List Handed) (place : ℕ) (e : EntryValue) (o : OutcomeValue) →
    slice_get book.entries place ≡ Some e → e.outcome ≡ Some o →
    (f : EntryValue) × (slice_get (book_after me book hs).entries place ≡ Some f) × (f.vote ≡ e.vote)
    × (f.outcome ≡ Some o)
