-- What planned changes of what is logged give, and what they need.
use Rattle.std.specs.Prelude.{ℕ, ◌<◌, ◌≤◌, List, Option, Some, None, length}
use Rattle.basil_types.specs.Limits.{signature_limit}
use Rattle.keyring.specs.Signing.{Signing}
use Rattle.node_steps.specs.Pendings.{IsReady, bytes_in}
use Rattle.txn_table.specs.Entries.{EntryValue}
use Rattle.replica_core.specs.declared.known.Known.{Known}
use Rattle.replica_core.specs.declared.logging.Said.{Said}
use Rattle.replica_core.specs.declared.logging.Said.TheVariants.{Again, Anew, Entered}
use Rattle.replica_core.specs.declared.logging.LogWork.{LogWork}
use Rattle.replica_core.specs.Holding.{arrived_in}
use Rattle.replica_core.specs.Known.{put_logged}
use Rattle.replica_core.specs.KnownWorks.{CanArrive}
use Rattle.replica_core.specs.Logs.{LoggedValue}
use Rattle.replica_core.specs.Replicas.{LoggedEntry, BookValue}
use Rattle.replica_core.specs.Seats.{book_of}
use Rattle.replica_core.specs.Telling.{Told, given, with_sent, with_signed}

-- a book with what these parts show
abbrev pub log_book_of : BookValue → Known → LoggedValue → (spent left : ℕ) → BookValue
log_book_of book known logged spent left = record (book_of book known spent left) { logged = logged.entries }

-- ---- what it gives

abbrev pub said_told : Signing → Told → Said → Told
said_told signing t (Again reply sent) = with_sent t sent
said_told signing t (Anew p) = with_signed signing t p
said_told signing t (Entered p) = with_signed signing t p

-- the signature of the reply that says the cell then
abbrev pub reply_after : Signing → Told → Said → Option (List ℕ)
reply_after signing t (Again reply sent) = Some reply
reply_after signing t (Anew p) = Some (given signing t p)
reply_after signing t (Entered p) = None

-- what is logged then
abbrev pub log_after : Signing → Told → LogWork → LoggedEntry
log_after signing t w =
    record { id = w.id; cell = w.cell; reply = reply_after signing t w.said; askers = w.askers.items }

abbrev pub with_log : Told → List EntryValue → List LoggedEntry → Told
with_log t entries logged = record t { book = record (t.book) { entries = entries; logged = logged } }

abbrev pub perform_log : Signing → Told → LogWork → Told
perform_log signing t w =
    with_log (said_told signing t w.said) (arrived_in t.book.entries w.arrives)
    (put_logged (log_after signing t w) t.book.logged)

-- ---- how many messages and words

abbrev pub said_messages : Said → ℕ
said_messages (Again reply sent) = 1
said_messages (Anew p) = length p.frames.items
said_messages (Entered p) = length p.frames.items

abbrev pub said_words : Said → ℕ
said_words (Again reply sent) = 0
said_words (Anew p) = 1
said_words (Entered p) = 1

abbrev pub said_bytes : ℕ → Said → ℕ
said_bytes size (Again reply sent) = length sent.frame
said_bytes size (Anew p) = bytes_in size p.frames.items
said_bytes size (Entered p) = bytes_in size p.frames.items

-- ---- what it needs

abbrev pub CanSay : (size left : ℕ) → Said → Type 0
CanSay size left (Again reply sent) = length reply ≤ signature_limit
CanSay size left (Anew p) = IsReady size p × (0 < left)
CanSay size left (Entered p) = IsReady size p × (0 < left)

-- by a pen with signatures of this size, of which so many are left
pub record CanLog (size left : ℕ) (known : Known) (logged : LoggedValue) (w : LogWork) : Type 0 where
  pub arrives : CanArrive known.table w.arrives
  pub room : 0 < logged.room
  pub says : CanSay size left w.said
