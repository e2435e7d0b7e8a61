-- What planned changes of the known transactions give, and what they need.
use Rattle.std.specs.Prelude.{◌≡◌, ℕ, ◌+◌, ◌<◌, ◌≤◌, List, [], ◌∷◌, Option, None, Some, option_map, Result}
use Rattle.std.specs.Prelude.{slice_get, length, true, false, ⊤}
use Rattle.std.specs.Option.{ForSome}
use Rattle.basil_types.specs.declared.outbox.Outbox.{Outbox}
use Rattle.basil_types.specs.Transaction.{TransactionValue, id}
use Rattle.certificates.specs.Accepted.{Accepted}
use Rattle.frame_views.specs.Stored.{spells_certificate}
use Rattle.keyring.specs.Signing.{Signing}
use Rattle.mv_store.specs.declared.store.Store.{Store}
use Rattle.mvtso_check.specs.Standing.{StandsFor}
use Rattle.node_steps.specs.Pendings.{IsReady, bytes_in}
use Rattle.node_steps.specs.Pens.{PenValue}
use Rattle.txn_table.specs.Entries.{EntryValue, asked, voted, decided}
use Rattle.txn_table.specs.Tables.{TableValue, id_of, place_of, changed, is_voted_at, decision_at}
use Rattle.replica_core.specs.declared.known.Known.{Known}
use Rattle.replica_core.specs.declared.refusal.Refusal.{Refusal}
use Rattle.replica_core.specs.declared.seat.Seat.{Seat}
use Rattle.replica_core.specs.declared.work.Release.{Release}
use Rattle.replica_core.specs.declared.work.KnownWork.{KnownWork}
use Rattle.replica_core.specs.declared.work.KnownWork.TheVariants.{Nothing, Tell, Wait, Vote, End}
use Rattle.replica_core.specs.Holding.{arrived_in, HasStoreRoom, IsUnvoted, IsWaiting}
use Rattle.replica_core.specs.Replicas.{ReplicaSelf, BookValue, Done}
use Rattle.replica_core.specs.Seats.{self_at, book_with}
use Rattle.replica_core.specs.Telling.{Told, IsPlanned, given, with_entries, with_sent, with_signed}

-- ---- what it gives

abbrev pub released_told : Signing → Told → Release → Told
released_told signing t r =
    with_entries (with_signed signing t r.pending)
    (changed (voted r.decision (given signing t r.pending) None) r.place t.book.entries)

abbrev pub all_released : Signing → List Release → Told → Told
all_released signing [] t = t
all_released signing (r ∷ rs) t = all_released signing rs (released_told signing t r)

abbrev pub perform_known : Signing → Told → KnownWork → Told
perform_known signing t Nothing = t
perform_known signing t (Tell envelope) = with_sent t envelope
perform_known signing t (Wait arrives place asker) =
    with_entries t (changed (asked asker) place (arrived_in t.book.entries arrives))
perform_known signing t (Vote arrives place decision proof p) =
    with_entries (with_signed signing t p)
    (changed (voted decision (given signing t p) proof) place (arrived_in t.book.entries arrives))
perform_known signing t (End arrives place outcome certificate votes) =
    all_released signing votes.items
    (with_entries t (changed (decided outcome certificate.items) place (arrived_in t.book.entries arrives)))

-- ---- how many messages and words

abbrev pub frames_in : List Release → ℕ
frames_in [] = 0
frames_in (r ∷ rs) = length r.pending.frames.items + frames_in rs

abbrev pub message_count : KnownWork → ℕ
message_count Nothing = 0
message_count (Tell envelope) = 1
message_count (Wait arrives place asker) = 0
message_count (Vote arrives place decision proof p) = length p.frames.items
message_count (End arrives place outcome certificate votes) = frames_in votes.items

abbrev pub word_count : KnownWork → ℕ
word_count Nothing = 0
word_count (Tell envelope) = 0
word_count (Wait arrives place asker) = 0
word_count (Vote arrives place decision proof p) = 1
word_count (End arrives place outcome certificate votes) = length votes.items

-- the bytes of the frames, with signatures of this size
abbrev pub release_bytes : ℕ → List Release → ℕ
release_bytes size [] = 0
release_bytes size (r ∷ rs) = bytes_in size r.pending.frames.items + release_bytes size rs

abbrev pub byte_count : ℕ → KnownWork → ℕ
byte_count size Nothing = 0
byte_count size (Tell envelope) = length envelope.frame
byte_count size (Wait arrives place asker) = 0
byte_count size (Vote arrives place decision proof p) = bytes_in size p.frames.items
byte_count size (End arrives place outcome certificate votes) = release_bytes size votes.items

-- there is room for them
pub record HasRoomFor (out : Outbox) (sent said : ℕ) : Type 0 where
  pub messages : sent ≤ out.messages.room
  pub words : said ≤ out.signed.room

-- ---- what it needs

-- one that arrives isn't known, and there is room for it
abbrev pub CanArrive : TableValue → Option TransactionValue → Type 0
CanArrive table arrives =
    ForSome arrives (λ t. (place_of table.entries (id t) ≡ None) × (table.room ≡ Some (id t)))

-- the entry at this place has no outcome, and there is room for it in the store
pub record CanEnter (store : Store) (entries : List EntryValue) (place : ℕ) : Type 0 where
  pub held : place < length entries
  pub undecided : decision_at entries place ≡ None
  pub room : ForSome (slice_get entries place) (HasStoreRoom store)

pub record CanWait (known : Known) (entries : List EntryValue) (place : ℕ) : Type 0 where
  pub enters : CanEnter known.store entries place
  pub not_voted : is_voted_at entries place ≡ false
  pub room : known.table.room ≡ option_map id_of (slice_get entries place)

pub record CanVote (known : Known) (entries : List EntryValue) (place : ℕ) (named : Option ℕ) : Type 0 where
  pub enters : CanEnter known.store entries place
  pub unvoted : ForSome (slice_get entries place) IsUnvoted
  pub proof : ForSome named (λ at. at < length entries)

pub record CanRelease (size : ℕ) (entries : List EntryValue) (r : Release) : Type 0 where
  pub held : r.place < length entries
  pub undecided : decision_at entries r.place ≡ None
  pub waiting : ForSome (slice_get entries r.place) IsWaiting
  pub ready : IsReady size r.pending

-- one after the other, whatever their signatures are
abbrev pub CanReleaseAll : ℕ → List EntryValue → List Release → Type 0
CanReleaseAll size entries [] = ⊤
CanReleaseAll size entries (r ∷ rs) =
    CanRelease size entries r ×
    ((signature : List ℕ) → CanReleaseAll size (changed (voted r.decision signature None) r.place entries) rs)

-- by a pen with signatures of this size, of which so many are left
abbrev pub CanPerform : (size left : ℕ) → Known → KnownWork → Type 0
CanPerform size left known Nothing = ⊤
CanPerform size left known (Tell envelope) = ⊤
CanPerform size left known (Wait arrives place asker) =
    CanArrive known.table arrives × CanWait known (arrived_in known.table.entries arrives) place
CanPerform size left known (Vote arrives place decision proof p) =
    CanArrive known.table arrives × CanVote known (arrived_in known.table.entries arrives) place proof ×
    IsReady size p × (0 < left)
CanPerform size left known (End arrives place outcome certificate votes) =
    CanArrive known.table arrives × CanEnter known.store (arrived_in known.table.entries arrives) place ×
    (spells_certificate certificate.items ≡ true) ×
    CanReleaseAll size (changed (decided outcome certificate.items) place (arrived_in known.table.entries arrives))
    votes.items × (length votes.items ≤ left)

-- ---- plans

-- the plan is of this answer, whatever the keyring accepts, and whatever else stands in a book that these parts show
abbrev pub IsPlanOf :
    Seat → Signing → PenValue → Known → Result KnownWork Refusal → (ReplicaSelf → BookValue → Result Done Refusal) →
    Type 0
IsPlanOf seat signing pen known result answer =
    (accepts : Accepted) (book : BookValue) → StandsFor known.store known.table.entries book.noted →
    IsPlanned (perform_known signing) (book_with book known.table.entries pen) result
    (answer (self_at seat accepts signing) (book_with book known.table.entries pen))
