-- The answer to a first stage: the vote of the replica (Basil, stage 1).
use Rattle.std.specs.Prelude.{ℕ, List, [], ◌∷◌, Option, Some, None, option_and_then, Result, Ok}
use Rattle.std.specs.Option.{option_map_or}
use Rattle.basil_types.specs.declared.party.Party.{Party}
use Rattle.basil_types.specs.declared.party.Decision.{Decision}
use Rattle.basil_types.specs.declared.party.Decision.TheVariants as decision
use Rattle.basil_types.specs.Transaction.{TransactionValue, id}
use Rattle.frame_views.specs.Values.{CommittedValue, VotedValue, Vote, Writeback}
use Rattle.mvtso_check.specs.declared.verdict.Verdict.{Verdict}
use Rattle.mvtso_check.specs.declared.verdict.Verdict.TheVariants as verdicts
use Rattle.mvtso_check.specs.Verdict.{verdict}
use Rattle.node_steps.specs.Envelopes.{EnvelopeValue}
use Rattle.node_steps.specs.Pens.{after_one}
use Rattle.node_steps.specs.Refusing.{unless}
use Rattle.txn_table.specs.Entries.{EntryValue, OutcomeValue, VoteValue, Unvoted, Waiting, Voted, asked, voted}
use Rattle.txn_table.specs.Tables.{entry_with}
use Rattle.replica_core.specs.declared.refusal.Refusal.{Refusal}
use Rattle.replica_core.specs.Replicas.{ReplicaSelf, BookValue, Done, quiet}
use Rattle.replica_core.specs.Known.{with_known, changed_at, proven, proven_at, as_writeback}
use Rattle.replica_core.specs.Signing.{vote_words, signature, exhausted}

-- ---- votes

-- a vote, with the certificate of the committed transaction at the place that it names
abbrev pub vote_value : ReplicaSelf → List EntryValue → List ℕ → Decision → Option ℕ → List ℕ → VotedValue
vote_value me entries named d proof signature =
    record {
      shard = me.home.shard;
      replica = me.index;
      id = named;
      decision = d;
      proof = option_and_then (proven_at entries) proof;
      signature = signature;
    }

abbrev pub vote_to : Party → VotedValue → EnvelopeValue
vote_to to v = record { to = to; message = Vote v }

-- ---- a transaction without a vote

-- the sender waits for the vote
abbrev pub wait_done : Party → BookValue → TransactionValue → Done
wait_done from book t = quiet (record book { entries = changed_at (asked from) (id t) (with_known book.entries t) })

-- the vote is signed, stored and sent
abbrev pub vote_done : ReplicaSelf → Party → BookValue → TransactionValue → Decision → Option ℕ → Done
vote_done me from book t d proof =
    let given = signature me book.pen (vote_words me (id t) d) in
    record {
      book = record book {
        entries = changed_at (voted d given proof) (id t) (with_known book.entries t);
        pen = after_one book.pen;
      };
      signed = vote_words me (id t) d ∷ [];
      sent = vote_to from (vote_value me book.entries (id t) d proof given) ∷ [];
    }

abbrev pub votes : ReplicaSelf → Party → BookValue → TransactionValue → Decision → Option ℕ → Result Done Refusal
votes me from book t d proof = unless (exhausted 1 book.pen) (vote_done me from book t d proof)

abbrev pub by_verdict : ReplicaSelf → Party → BookValue → TransactionValue → Verdict → Result Done Refusal
by_verdict me from book t verdicts.Commit = votes me from book t decision.Commit None
by_verdict me from book t verdicts.Abort = votes me from book t decision.Abort None
by_verdict me from book t (verdicts.AbortBy place) = votes me from book t decision.Abort (Some place)
by_verdict me from book t verdicts.Wait = Ok (wait_done from book t)

abbrev pub verdict_of : ReplicaSelf → ℕ → BookValue → TransactionValue → Verdict
verdict_of me now book t = verdict me.home now (record { entries = book.entries; noted = book.noted }) t

abbrev pub first_vote : ReplicaSelf → ℕ → Party → BookValue → TransactionValue → Result Done Refusal
first_vote me now from book t = by_verdict me from book t (verdict_of me now book t)

-- ---- a known transaction

-- the stored vote is given again
abbrev pub vote_again : ReplicaSelf → Party → BookValue → TransactionValue → Decision → List ℕ → Option ℕ → Done
vote_again me from book t d signature proof =
    record {
      book = book;
      signed = [];
      sent = vote_to from (vote_value me book.entries (id t) d proof signature) ∷ [];
    }

abbrev pub by_vote : ReplicaSelf → ℕ → Party → BookValue → TransactionValue → VoteValue → Result Done Refusal
by_vote me now from book t Unvoted = first_vote me now from book t
by_vote me now from book t (Waiting askers) = Ok (wait_done from book t)
by_vote me now from book t (Voted d signature proof) = Ok (vote_again me from book t d signature proof)

-- the entry's own transaction votes, whatever other bytes of its id came
abbrev pub answer_known :
    ReplicaSelf → ℕ → Party → BookValue → TransactionValue → Option EntryValue → Result Done Refusal
answer_known me now from book t None = first_vote me now from book t
answer_known me now from book t (Some e) = by_vote me now from book e.transaction e.vote

abbrev pub first_stage : ReplicaSelf → ℕ → Party → BookValue → TransactionValue → Result Done Refusal
first_stage me now from book t = answer_known me now from book t (entry_with book.entries (id t))

-- ---- what has an outcome

abbrev pub writeback_to : Party → CommittedValue → EnvelopeValue
writeback_to to part = record { to = to; message = Writeback (as_writeback part) }

-- a transaction with an outcome is answered by its certificate
abbrev pub tell_outcome : Party → BookValue → EntryValue → OutcomeValue → Done
tell_outcome from book e outcome =
    record { book = book; signed = []; sent = writeback_to from (proven e.transaction outcome) ∷ [] }

-- the outcome of a known transaction, or what is answered without one
abbrev pub told_or : Party → BookValue → Result Done Refusal → EntryValue → Result Done Refusal
told_or from book answer e = option_map_or (λ outcome. Ok (tell_outcome from book e outcome)) e.outcome answer

abbrev pub unless_ended : Party → BookValue → List ℕ → Result Done Refusal → Result Done Refusal
unless_ended from book named answer = option_map_or (told_or from book answer) (entry_with book.entries named) answer

abbrev pub answer_st1 : ReplicaSelf → ℕ → Party → BookValue → TransactionValue → Result Done Refusal
answer_st1 me now from book t = unless_ended from book (id t) (first_stage me now from book t)
