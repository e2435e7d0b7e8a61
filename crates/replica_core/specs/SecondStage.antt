-- The answers to a second stage and to a recovery: log replies (Basil, stage 2 and fallback).
use Rattle.std.specs.Prelude.{ℕ, List, [], ◌∷◌, Bool, ◌==◌, Option, Some, None, Result, Ok, if◌then◌else◌}
use Rattle.basil_types.specs.declared.party.Party.{Party}
use Rattle.basil_types.specs.declared.party.Decision.{Decision}
use Rattle.basil_types.specs.Transaction.{TransactionValue, id}
use Rattle.decision_log.specs.Cells.{first_cell}
use Rattle.decision_log.specs.declared.cell.LogCell.{LogCell}
use Rattle.frame_views.specs.Values.{LogReplyValue, LogReply}
use Rattle.node_steps.specs.Envelopes.{EnvelopeValue}
use Rattle.node_steps.specs.Pens.{after_one}
use Rattle.node_steps.specs.Refusing.{unless}
use Rattle.txn_meta.specs.Places.{log_shard}
use Rattle.replica_core.specs.declared.refusal.Refusal.{Refusal}
use Rattle.replica_core.specs.Replicas.{ReplicaSelf, LoggedEntry, BookValue, Done}
use Rattle.replica_core.specs.Known.{with_known, known_of, logged_with, put_logged, asked_by}
use Rattle.replica_core.specs.Signing.{log_words, signature, exhausted}
use Rattle.replica_core.specs.FirstStage.{first_stage, unless_ended}

abbrev pub log_reply : ReplicaSelf → List ℕ → LogCell → List ℕ → LogReplyValue
log_reply me named cell signature =
    record {
      shard = me.home.shard;
      replica = me.index;
      id = named;
      decision = cell.decision;
      decided = cell.decided;
      current = cell.current;
      signature = signature;
    }

abbrev pub reply_to : Party → LogReplyValue → EnvelopeValue
reply_to to reply = record { to = to; message = LogReply reply }

-- what is logged, before anybody asked and anything was signed
abbrev pub unsigned : List ℕ → LogCell → LoggedEntry
unsigned named cell = record { id = named; cell = cell; reply = None; askers = [] }

-- the book in which a client more asks for this, and its reply is this
abbrev pub book_asked : Party → BookValue → TransactionValue → LoggedEntry → List ℕ → BookValue
book_asked from book t l reply =
    record book {
      entries = with_known book.entries t;
      logged = put_logged (record l { reply = Some reply; askers = asked_by from l.askers }) book.logged;
    }

-- the stored reply is given again
abbrev pub reply_again : ReplicaSelf → Party → BookValue → TransactionValue → LoggedEntry → List ℕ → Done
reply_again me from book t l stored =
    record {
      book = book_asked from book t l stored;
      signed = [];
      sent = reply_to from (log_reply me l.id l.cell stored) ∷ [];
    }

-- the reply is signed and stored
abbrev pub reply_anew : ReplicaSelf → Party → BookValue → TransactionValue → LoggedEntry → Done
reply_anew me from book t l =
    let given = signature me book.pen (log_words me l.id l.cell) in
    record {
      book = record (book_asked from book t l given) { pen = after_one book.pen };
      signed = log_words me l.id l.cell ∷ [];
      sent = reply_to from (log_reply me l.id l.cell given) ∷ [];
    }

-- a log reply is signed anew only where its cell changed since the stored one
abbrev pub reply_by :
    ReplicaSelf → Party → BookValue → TransactionValue → LoggedEntry → Option (List ℕ) → Result Done Refusal
reply_by me from book t l (Some stored) = Ok (reply_again me from book t l stored)
reply_by me from book t l None = unless (exhausted 1 book.pen) (reply_anew me from book t l)

abbrev pub reply_of : ReplicaSelf → Party → BookValue → TransactionValue → LoggedEntry → Result Done Refusal
reply_of me from book t l = reply_by me from book t l l.reply

-- what is logged stays; without a cell the decision is logged in view 0
abbrev pub log_or_reply :
    ReplicaSelf → Party → BookValue → TransactionValue → Decision → Option LoggedEntry → Result Done Refusal
log_or_reply me from book t d (Some l) = reply_of me from book t l
log_or_reply me from book t d None = reply_of me from book t (unsigned (id t) (first_cell d))

abbrev pub answer_st2 : ReplicaSelf → Party → BookValue → TransactionValue → Decision → Result Done Refusal
answer_st2 me from book t d =
    unless_ended from book (id t) (log_or_reply me from book t d (logged_with book.logged (id t)))

-- whether the replica's shard logs the transaction's decision
abbrev pub logs_here : ReplicaSelf → TransactionValue → Bool
logs_here me t = log_shard me.home.cluster t == me.home.shard

-- on the log shard what is logged is told, otherwise the vote
abbrev pub recover_by :
    ReplicaSelf → ℕ → Party → BookValue → TransactionValue → Option LoggedEntry → Result Done Refusal
recover_by me now from book t None = first_stage me now from book t
recover_by me now from book t (Some l) =
    if logs_here me (known_of book.entries t) then reply_of me from book t l else first_stage me now from book t

abbrev pub answer_recover : ReplicaSelf → ℕ → Party → BookValue → TransactionValue → Result Done Refusal
answer_recover me now from book t =
    unless_ended from book (id t) (recover_by me now from book t (logged_with book.logged (id t)))
