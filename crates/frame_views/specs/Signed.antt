-- Every signature of a message, in the order of the bytes, with its party and its words.
use Rattle.std.specs.Prelude.{ℕ, List, [], ◌∷◌, ◌++◌, map, Option, Some, None}
use Rattle.std.specs.List.{flat_map}
use Rattle.basil_types.specs.declared.party.Party.{Party}
use Rattle.basil_types.specs.declared.party.Party.TheVariants.{Replica, Client}
use Rattle.basil_types.specs.declared.party.Decision.{Decision}
use Rattle.basil_types.specs.declared.party.Decision.TheVariants.{Commit, Abort}
use Rattle.basil_types.specs.declared.version.Version.{Version}
use Rattle.basil_types.specs.Version.{genesis}
use Rattle.basil_types.specs.Transaction as transactions
use Rattle.basil_types.specs.Transaction.{TransactionValue, version_of}
use Rattle.basil_types.specs.Words.{words_of, TransactionWords, VoteWords, ReadReplyWords, LogReplyWords, ElectionWords}
use Rattle.basil_types.specs.Words.{ProposalWords}
use Rattle.frame_views.specs.Values.{VoteValue, TallyValue, LogValue, ReplyValue, WordValue, LoggedValue, CommitBody}
use Rattle.frame_views.specs.Values.{FastCommit, Logged, BodyValue, Commits, FastAbort}
use Rattle.frame_views.specs.Values.{ConflictAbort, CertificateValue}
use Rattle.frame_views.specs.Values.{CommittedValue, MessageValue, ReadReplyValue, Read, ReadReply, St1, Vote, St2}
use Rattle.frame_views.specs.Values.{LogReply, Writeback, Recover, Invoke, Elect, Decide}

-- a signature, whose it is, and of which words
pub record SignedBy : Type 0 where
  pub party : Party
  pub words : List ℕ
  pub signature : List ℕ

-- ---- one signature

-- a client's, of its transaction
abbrev pub client_signed : TransactionValue → List ℕ → SignedBy
client_signed t signature =
    record { party = Client t.client; words = words_of (TransactionWords (transactions.id t)); signature = signature }

-- a replica's, of its vote
abbrev pub vote_signed : ℕ → List ℕ → Decision → VoteValue → SignedBy
vote_signed shard id decision v =
    record {
      party = Replica shard v.replica;
      words = words_of (VoteWords (record { shard = shard; replica = v.replica; id = id; decision = decision }));
      signature = v.signature;
    }

-- a replica's, of its logged decision
abbrev pub log_signed : ℕ → List ℕ → ReplyValue → SignedBy
log_signed shard id r =
    record {
      party = Replica shard r.replica;
      words = words_of (LogReplyWords (record {
        shard = shard;
        replica = r.replica;
        id = id;
        decision = r.decision;
        decided = r.decided;
        current = r.current;
      }));
      signature = r.signature;
    }

-- a replica's, of its word in an election
abbrev pub word_signed : ℕ → List ℕ → ℕ → WordValue → SignedBy
word_signed shard id view w =
    record {
      party = Replica shard w.replica;
      words = words_of (ElectionWords (record {
        shard = shard;
        replica = w.replica;
        id = id;
        decision = w.decision;
        view = view;
      }));
      signature = w.signature;
    }

-- a leader's, of its proposal
abbrev pub proposal_signed : ℕ → List ℕ → ℕ → WordValue → SignedBy
proposal_signed shard id view w =
    record {
      party = Replica shard w.replica;
      words = words_of (ProposalWords (record {
        shard = shard;
        replica = w.replica;
        id = id;
        decision = w.decision;
        view = view;
      }));
      signature = w.signature;
    }

-- the version that a read reply speaks of; a missing one is genesis
abbrev pub version_told : Option TransactionValue → Version
version_told None = genesis
version_told (Some t) = version_of t

abbrev pub committed_told : Option CommittedValue → Version
committed_told None = genesis
committed_told (Some c) = version_of c.transaction

-- a replica's, of what it told of a key
abbrev pub reply_signed : ReadReplyValue → SignedBy
reply_signed m =
    record {
      party = Replica m.shard m.replica;
      words = words_of (ReadReplyWords (record {
        shard = m.shard;
        replica = m.replica;
        key = m.key;
        time = m.time;
        client = m.client;
        committed = committed_told m.committed;
        prepared = version_told m.prepared;
      }));
      signature = m.signature;
    }

-- ---- lists of them

abbrev pub tally_signed : List ℕ → Decision → TallyValue → List SignedBy
tally_signed id decision t = map (vote_signed t.shard id decision) t.votes

abbrev pub tallies_signed : List ℕ → Decision → List TallyValue → List SignedBy
tallies_signed id decision tallies = flat_map (tally_signed id decision) tallies

-- a reply of a logged certificate says the certificate's decision and view
abbrev pub as_reply : Decision → ℕ → LogValue → ReplyValue
as_reply decision decided l =
    record { replica = l.replica; decision = decision; decided = decided; current = l.current; signature = l.signature }

abbrev pub one_logged : ℕ → List ℕ → Decision → ℕ → LogValue → SignedBy
one_logged shard id decision decided l = log_signed shard id (as_reply decision decided l)

abbrev pub logged_signed : List ℕ → LoggedValue → List SignedBy
logged_signed id l = map (one_logged l.shard id l.decision l.decided) l.logs

abbrev pub commit_signed : List ℕ → CommitBody → List SignedBy
commit_signed id (FastCommit tallies) = tallies_signed id Commit tallies
commit_signed id (Logged logged) = logged_signed id logged

abbrev pub body_signed : List ℕ → BodyValue → List SignedBy
body_signed id (Commits body) = commit_signed id body
body_signed id (FastAbort tally) = tally_signed id Abort tally
body_signed id (ConflictAbort c) =
    vote_signed c.shard id Abort (record { replica = c.replica; signature = c.signature })
    ∷ commit_signed c.proof.id c.proof.body

abbrev pub certificate_signed : CertificateValue → List SignedBy
certificate_signed c = body_signed c.id c.body

abbrev pub committed_signed : Option CommittedValue → List SignedBy
committed_signed None = []
committed_signed (Some c) = certificate_signed c.certificate

-- every signature of a message, nested ones too
abbrev pub signed_in : MessageValue → List SignedBy
signed_in (Read m) = []
signed_in (ReadReply m) = committed_signed m.committed ++ reply_signed m ∷ []
signed_in (St1 m) = client_signed m.transaction m.signature ∷ []
signed_in (Vote m) =
    committed_signed m.proof ++ vote_signed m.shard m.id m.decision
    (record { replica = m.replica; signature = m.signature }) ∷ []
signed_in (St2 m) =
    client_signed m.transaction m.signature ∷ tallies_signed (transactions.id m.transaction) m.decision m.tallies
signed_in (LogReply m) =
    log_signed m.shard m.id (record {
      replica = m.replica;
      decision = m.decision;
      decided = m.decided;
      current = m.current;
      signature = m.signature;
    }) ∷ []
signed_in (Writeback m) = certificate_signed m.certificate
signed_in (Recover m) = client_signed m.transaction m.signature ∷ []
signed_in (Invoke m) = map (log_signed m.shard m.id) m.replies
signed_in (Elect m) =
    word_signed m.shard (transactions.id m.transaction) m.view
    (record { replica = m.replica; decision = m.decision; signature = m.signature }) ∷ []
signed_in (Decide m) =
    map (word_signed m.shard (transactions.id m.transaction) m.view) m.words
    ++ proposal_signed m.shard (transactions.id m.transaction) m.view
    (record { replica = m.replica; decision = m.decision; signature = m.signature }) ∷ []
