-- What planned answers to election words give, and what they need; when a leader's decision is adopted.
use Rattle.std.specs.Prelude.{ℕ, ◌<◌, List, Option, Some, None, length, ⊤}
use Rattle.basil_types.specs.Built.{or_else}
use Rattle.basil_types.specs.Transaction.{TransactionValue, id}
use Rattle.fallback_leader.specs.declared.words.KeptWord.{KeptWord}
use Rattle.fallback_leader.specs.Elections.{collected}
use Rattle.frame_views.specs.Values.{ElectValue, DecideValue}
use Rattle.keyring.specs.Signing.{Signing}
use Rattle.node_steps.specs.declared.pending.Pending.{Pending}
use Rattle.node_steps.specs.Pendings.{IsReady, bytes_in}
use Rattle.node_steps.specs.Pens.{PenValue}
use Rattle.replica_core.specs.declared.election.LeadWork.{LeadWork}
use Rattle.replica_core.specs.declared.known.Known.{Known}
use Rattle.replica_core.specs.declared.refusal.Refusal.{Refusal}
use Rattle.replica_core.specs.declared.seat.Seat.{Seat}
use Rattle.replica_core.specs.Elections.{word_of, not_adopted, bad_election}
use Rattle.replica_core.specs.Leads.{LeadingValue}
use Rattle.replica_core.specs.LogFronts.{pen_at}
use Rattle.replica_core.specs.Replicas.{ReplicaSelf, LoggedEntry, BookValue}
use Rattle.replica_core.specs.Seats.{book_of}
use Rattle.replica_core.specs.Signing.{exhausted}
use Rattle.replica_core.specs.Telling.{Told, with_signed}

-- a book with what these parts show
abbrev pub lead_book_at : BookValue → LeadingValue → (spent left : ℕ) → BookValue
lead_book_at book leading spent left = record (pen_at book spent left) { kept = leading.kept }

abbrev pub lead_book_of : BookValue → Known → LeadingValue → (spent left : ℕ) → BookValue
lead_book_of book known leading spent left = record (book_of book known spent left) { kept = leading.kept }

-- ---- what a planned answer gives

abbrev pub lead_told : Signing → Told → Option Pending → Told
lead_told signing t None = t
lead_told signing t (Some p) = with_signed signing t p

abbrev pub with_kept : Told → List KeptWord → Told
with_kept t kept = record t { book = record (t.book) { kept = kept } }

-- where these are the words that are kept with the one that is held back
abbrev pub perform_lead : Signing → List KeptWord → Told → LeadWork → Told
perform_lead signing kept t w = with_kept (lead_told signing t w.pending) kept

abbrev pub kept_after : Seat → BookValue → TransactionValue → ElectValue → List KeptWord
kept_after seat book t m = collected seat.home.cluster.f book.kept (id t) m.view (word_of m)

-- ---- how many messages and words

abbrev pub messages_in : Option Pending → ℕ
messages_in None = 0
messages_in (Some p) = length p.frames.items

abbrev pub words_in : Option Pending → ℕ
words_in None = 0
words_in (Some p) = 1

abbrev pub lead_messages : LeadWork → ℕ
lead_messages w = messages_in w.pending

abbrev pub lead_words : LeadWork → ℕ
lead_words w = words_in w.pending

abbrev pub bytes_of_pending : ℕ → Option Pending → ℕ
bytes_of_pending size None = 0
bytes_of_pending size (Some p) = bytes_in size p.frames.items

abbrev pub lead_bytes : ℕ → LeadWork → ℕ
lead_bytes size w = bytes_of_pending size w.pending

-- ---- what it needs

abbrev pub CanPropose : (size left : ℕ) → Option Pending → Type 0
CanPropose size left None = ⊤
CanPropose size left (Some p) = IsReady size p × (0 < left)

abbrev pub CanLead : (size left : ℕ) → LeadWork → Type 0
CanLead size left w = CanPropose size left w.pending

-- ---- decisions

-- why a decision of the view's leader isn't adopted in the place of what is logged
abbrev pub adopts : ReplicaSelf → DecideValue → Option LoggedEntry → PenValue → Option Refusal
adopts me m l pen = or_else (not_adopted l m.view) (or_else (bad_election me m) (exhausted 1 pen))
