-- What planned answers to reads give, and what they need.
use Rattle.std.specs.Prelude.{ℕ, ◌<◌, [], ◌∷◌, ◌++◌, Option}
use Rattle.basil_types.specs.Transaction.{TransactionValue}
use Rattle.basil_types.specs.Words.{SignedWords, ReadReplyWords}
use Rattle.frame_views.specs.Signed.{committed_told, version_told}
use Rattle.frame_views.specs.Values.{CommittedValue, ReadValue, ReadReplyValue}
use Rattle.keyring.specs.Signing.{Signing}
use Rattle.mv_store.specs.Held.{NotedRead}
use Rattle.mv_store.specs.Store.{HasReadRoom}
use Rattle.node_steps.specs.Pendings.{IsReady}
use Rattle.replica_core.specs.declared.known.Known.{Known}
use Rattle.replica_core.specs.declared.reads.ReadWork.{ReadWork}
use Rattle.replica_core.specs.declared.seat.Seat.{Seat}
use Rattle.replica_core.specs.Replicas.{BookValue}
use Rattle.replica_core.specs.Telling.{Told, with_signed}

-- ---- replies before they are signed

abbrev pub reply_said : Seat → ReadValue → Option CommittedValue → Option TransactionValue → ReadReplyValue
reply_said seat m committed prepared =
    record {
      shard = seat.home.shard;
      replica = seat.index;
      key = m.key;
      time = m.time;
      client = m.client;
      committed = committed;
      prepared = prepared;
      signature = [];
    }

abbrev pub reply_words_of : Seat → ReadValue → Option CommittedValue → Option TransactionValue → SignedWords
reply_words_of seat m committed prepared =
    ReadReplyWords (record {
      shard = seat.home.shard;
      replica = seat.index;
      key = m.key;
      time = m.time;
      client = m.client;
      committed = committed_told committed;
      prepared = version_told prepared;
    })

-- ---- what a planned answer gives

abbrev pub read_in : ReadWork → NotedRead
read_in w = record { key = w.key; time = w.time; client = w.client }

abbrev pub with_read : BookValue → ReadWork → BookValue
with_read book w = record book { noted = book.noted ++ read_in w ∷ [] }

abbrev pub perform_read : Signing → Told → ReadWork → Told
perform_read signing t w =
    let done = with_signed signing t w.pending in record done { book = with_read done.book w }

-- ---- what it needs

-- by a pen with signatures of this size, of which so many are left
pub record CanRead (size signatures : ℕ) (known : Known) (w : ReadWork) : Type 0 where
  pub room : HasReadRoom known.store w.key
  pub ready : IsReady size w.pending
  pub left : 0 < signatures
