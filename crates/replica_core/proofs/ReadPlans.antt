-- A planned answer to a read is the answer.
use Rattle.std.proofs.Common.{◌≡◌, ℕ, List, [], ◌∷◌, ◌++◌, Option, None, Ok, sym, ap, ◌∙◌}
use Rattle.basil_types.specs.Built.{or_else}
use Rattle.basil_types.specs.declared.outbox.Envelope.{Envelope}
use Rattle.basil_types.specs.declared.party.Party.{Party}
use Rattle.basil_types.specs.Transaction.{TransactionValue}
use Rattle.basil_types.specs.Words.{words_of}
use Rattle.certificates.specs.Accepted.{Accepted}
use Rattle.frame_views.specs.Values.{CommittedValue, ReadValue, ReadReplyValue, ReadReply}
use Rattle.frame_writing.specs.Unsigned.{unsigned_read_reply, EndsSigned}
use Rattle.keyring.specs.Signing.{Signing}
use Rattle.mv_store.specs.Held.{NotedRead}
use Rattle.node_steps.specs.declared.pending.Pending.{Pending}
use Rattle.node_steps.specs.Envelopes.{EnvelopeValue}
use Rattle.node_steps.specs.Framed.{framed}
use Rattle.node_steps.specs.Pendings.{fronts_of, sealed_all}
use Rattle.node_steps.specs.Pens.{after_one}
use Rattle.node_steps.specs.Refusing.{unless}
use Rattle.replica_core.specs.declared.seat.Seat.{Seat}
use Rattle.replica_core.specs.ElectFronts.{front_for}
use Rattle.replica_core.specs.Reads.{committed_below, prepared_below, from_future, read_done, answer_read}
use Rattle.replica_core.specs.ReadWorks.{reply_said, reply_words_of, perform_read}
use Rattle.replica_core.specs.Replicas.{BookValue}
use Rattle.replica_core.specs.Seats.{self_at}
use Rattle.replica_core.specs.Signing.{exhausted}
use Rattle.replica_core.specs.Telling.{Told, told_of, begun}
use Rattle.replica_core.proofs.Sends.{sends_one}

abbrev pub ReadRepliesEnd : Type 0
ReadRepliesEnd = (m : ReadReplyValue) → EndsSigned (ReadReply m) (unsigned_read_reply m) m.signature

pub read_planned : (seat : Seat) (accepts : Accepted) (signing : Signing) (book : BookValue) (now : ℕ) (from : Party) (m : ReadValue)
    (committed : Option CommittedValue) (prepared : Option TransactionValue) (p : Pending) → ReadRepliesEnd
    → from_future (self_at seat accepts signing) now m ≡ None → exhausted 1 book.pen ≡ None → committed ≡ committed_below book.entries m
    → prepared ≡ prepared_below book.entries m
    → p.words ≡ words_of (reply_words_of seat m committed prepared)
    → fronts_of p ≡ front_for (unsigned_read_reply (reply_said seat m committed prepared)) from ∷ []
    → told_of (answer_read (self_at seat accepts signing) now from book m) ≡ Ok
    (perform_read signing (begun book) (record { key = m.key; time = m.time; client = m.client; pending = p }))
read_planned seat accepts signing book now from m committed prepared p law timely left latest pending words fronts =
    let g = signing.gives book.pen.spent p.words in
    let read : NotedRead = record { key = m.key; time = m.time; client = m.client } in
    let reply : Option CommittedValue → Option TransactionValue → List ℕ → ReadReplyValue =
    λ c t s. record {
      shard = seat.home.shard;
      replica = seat.index;
      key = m.key;
      time = m.time;
      client = m.client;
      committed = c;
      prepared = t;
      signature = s;
    } in
    let sent : Option CommittedValue → Option TransactionValue → List ℕ → List Envelope =
    λ c t w. let e : EnvelopeValue = record {
      to = from;
      message = ReadReply
          (reply c t (signing.gives book.pen.spent w));
    } in framed e ∷ [] in
    let told : List (List ℕ) → List Envelope → Told =
    λ signed sent. record
    { book = record book { noted = book.noted ++ read ∷ []; pen = after_one book.pen }; signed = signed; sent = sent } in
    let said : Option CommittedValue → Option TransactionValue → List ℕ = λ c t. words_of (reply_words_of seat m c t) in
    let by : Option CommittedValue → Option TransactionValue → List ℕ → Told = λ c t w. told (w ∷ []) (sent c t w) in
    let sealed : sent committed prepared p.words ≡ sealed_all g p =
    sends_one (ReadReply (reply committed prepared g)) (unsigned_read_reply (reply_said seat m committed prepared)) g p from
    (law (reply committed prepared g)) fronts in
    ap (λ o. told_of (unless (or_else o (exhausted 1 book.pen)) (read_done (self_at seat accepts signing) from book m))) timely
    ∙ ap (λ o. told_of (unless o (read_done (self_at seat accepts signing) from book m))) left
    ∙ ap Ok (ap (λ c. by c (prepared_below book.entries m) (said c (prepared_below book.entries m))) (sym latest)
    ∙ ap (λ t. by committed t (said committed t)) (sym pending)
    ∙ ap (by committed prepared) (sym words)
    ∙ ap (told (p.words ∷ [])) sealed)
