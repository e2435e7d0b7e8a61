-- The answer to a read (Basil, reads).
use Rattle.std.specs.Prelude.{ℕ, ◌+◌, List, [], ◌∷◌, ◌++◌, Option, option_map, option_and_then, slice_get, Result}
use Rattle.std.specs.Prelude.{nat_lt}
use Rattle.basil_types.specs.Built.{or_else}
use Rattle.basil_types.specs.declared.party.Party.{Party}
use Rattle.basil_types.specs.declared.version.Version.{Version}
use Rattle.basil_types.specs.Transaction.{TransactionValue}
use Rattle.basil_types.specs.Words.{SignedWords, ReadReplyWords}
use Rattle.frame_views.specs.Signed.{committed_told, version_told}
use Rattle.frame_views.specs.Values.{CommittedValue, ReadValue, ReadReplyValue, ReadReply}
use Rattle.mv_store.specs.Held.{NotedRead, latest_committed, latest_prepared}
use Rattle.mvtso_check.specs.Book.{held_in}
use Rattle.node_steps.specs.Limits.{limit_of}
use Rattle.node_steps.specs.Pens.{after_one}
use Rattle.node_steps.specs.Refusing.{when, unless}
use Rattle.txn_table.specs.Entries.{EntryValue}
use Rattle.replica_core.specs.declared.refusal.Refusal.{Refusal}
use Rattle.replica_core.specs.declared.refusal.Refusal.TheVariants.{FromFuture}
use Rattle.replica_core.specs.Replicas.{ReplicaSelf, BookValue, Done}
use Rattle.replica_core.specs.Known.{proven_at}
use Rattle.replica_core.specs.Signing.{signature, exhausted}

-- the latest committed version below the reader, with its certificate
abbrev pub committed_below : List EntryValue → ReadValue → Option CommittedValue
committed_below entries m =
    option_and_then (λ (x : Version × ℕ). proven_at entries x.1)
    (latest_committed m.key (limit_of m) (held_in entries))

-- the latest prepared version below the reader
abbrev pub prepared_below : List EntryValue → ReadValue → Option TransactionValue
prepared_below entries m =
    option_map (λ (e : EntryValue). e.transaction)
    (option_and_then (λ (x : Version × ℕ). slice_get entries x.1)
    (latest_prepared m.key (limit_of m) (held_in entries)))

abbrev pub read_words : ReplicaSelf → List EntryValue → ReadValue → SignedWords
read_words me entries m =
    ReadReplyWords (record {
      shard = me.home.shard;
      replica = me.index;
      key = m.key;
      time = m.time;
      client = m.client;
      committed = committed_told (committed_below entries m);
      prepared = version_told (prepared_below entries m);
    })

abbrev pub read_reply : ReplicaSelf → BookValue → ReadValue → ReadReplyValue
read_reply me book m =
    record {
      shard = me.home.shard;
      replica = me.index;
      key = m.key;
      time = m.time;
      client = m.client;
      committed = committed_below book.entries m;
      prepared = prepared_below book.entries m;
      signature = signature me book.pen (read_words me book.entries m);
    }

abbrev pub noted_read : ReadValue → NotedRead
noted_read m = record { key = m.key; time = m.time; client = m.client }

abbrev pub read_done : ReplicaSelf → Party → BookValue → ReadValue → Done
read_done me from book m =
    record {
      book = record book { noted = book.noted ++ noted_read m ∷ []; pen = after_one book.pen };
      signed = read_words me book.entries m ∷ [];
      sent = record { to = from; message = ReadReply (read_reply me book m) } ∷ [];
    }

abbrev pub from_future : ReplicaSelf → ℕ → ReadValue → Option Refusal
from_future me now m = when (nat_lt (now + me.home.cluster.delta) m.time) (FromFuture now)

abbrev pub answer_read : ReplicaSelf → ℕ → Party → BookValue → ReadValue → Result Done Refusal
answer_read me now from book m =
    unless (or_else (from_future me now m) (exhausted 1 book.pen)) (read_done me from book m)
