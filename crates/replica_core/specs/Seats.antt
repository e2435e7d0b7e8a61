-- Where a replica sits, and what its parts show.
use Rattle.std.specs.Prelude.{ℕ, List}
use Rattle.certificates.specs.Accepted.{Accepted}
use Rattle.keyring.specs.Signing.{Signing}
use Rattle.node_steps.specs.Pens.{PenValue, pen_value}
use Rattle.txn_table.specs.Entries.{EntryValue}
use Rattle.replica_core.specs.declared.seat.Seat.{Seat}
use Rattle.replica_core.specs.declared.known.Known.{Known}
use Rattle.replica_core.specs.Replicas.{ReplicaSelf, BookValue}

-- what doesn't change of a replica
abbrev pub self_at : Seat → Accepted → Signing → ReplicaSelf
self_at seat accepts signing =
    record { home = seat.home; index = seat.index; accepts = accepts; signing = signing }

-- a book with these entries and this place of the pen
abbrev pub book_with : BookValue → List EntryValue → PenValue → BookValue
book_with book entries pen = record book { entries = entries; pen = pen }

-- a book with what these parts show: the known transactions, and the signatures that the pen gave and has left
abbrev pub book_of : BookValue → Known → (spent left : ℕ) → BookValue
book_of book known spent left = book_with book known.table.entries (pen_value spent left)
