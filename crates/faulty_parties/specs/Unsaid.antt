-- What faulty parties say, once they have the signature.
use Rattle.std.specs.Prelude.{◌≡◌, ℕ, List, [], ◌∷◌, None}
use Rattle.basil_types.specs.declared.party.Decision.{Decision}
use Rattle.basil_types.specs.declared.party.Party.{Party}
use Rattle.basil_types.specs.declared.party.Party.TheVariants.{Replica, Client}
use Rattle.basil_types.specs.Setting.{Setting}
use Rattle.basil_types.specs.Transaction.{TransactionValue, id}
use Rattle.basil_types.specs.Words.{SignedWords, TransactionWords, VoteWords}
use Rattle.basil_types.specs.Words.{LogReplyWords, ElectionWords, ProposalWords}
use Rattle.client_recover.specs.Pursuits.{to_involved}
use Rattle.frame_views.specs.Values.{VotedValue, LogReplyValue, ElectValue, DecideValue, WordValue}
use Rattle.frame_views.specs.Values.{Vote, LogReply, Elect, Decide, St1}
use Rattle.node_steps.specs.Envelopes.{EnvelopeValue}
use Rattle.txn_meta.specs.Places.{log_shard, leader_of}
use Rattle.cluster_run.specs.Faulty.{LieValue, faulty_signature}
use Rattle.cluster_run.specs.States.{Setup, State}

-- a party, the words that it is to sign, and what it sends with the signature
pub record Unsaid : Type 0 where
  pub party : Party
  pub words : SignedWords
  pub sent : List ℕ → List EnvelopeValue

-- ---- a vote, for a client

abbrev pub voted : (shard replica : ℕ) (id : List ℕ) → Decision → (signature : List ℕ) → VotedValue
voted shard r id d signature =
    record { shard = shard; replica = r; id = id; decision = d; proof = None; signature = signature }

abbrev pub unsaid_vote : (shard replica : ℕ) → TransactionValue → Decision → (client : ℕ) → Unsaid
unsaid_vote shard r t d client =
    record {
      party = Replica shard r;
      words = VoteWords (record { shard = shard; replica = r; id = id t; decision = d });
      sent = λ signature. record { to = Client client; message = Vote (voted shard r (id t) d signature) } ∷ [];
    }

-- ---- a log reply, for a client: the view in which it was decided, and the current view

abbrev pub replied :
    (shard replica : ℕ) (id : List ℕ) → Decision → (decided current : ℕ) (signature : List ℕ) → LogReplyValue
replied shard r id d decided current signature =
    record {
      shard = shard;
      replica = r;
      id = id;
      decision = d;
      decided = decided;
      current = current;
      signature = signature;
    }

abbrev pub unsaid_reply :
    (shard replica : ℕ) → TransactionValue → Decision → (decided current client : ℕ) → Unsaid
unsaid_reply shard r t d decided current client =
    record {
      party = Replica shard r;
      words = LogReplyWords (record {
        shard = shard;
        replica = r;
        id = id t;
        decision = d;
        decided = decided;
        current = current;
      });
      sent = λ signature.
          record { to = Client client; message = LogReply (replied shard r (id t) d decided current signature) } ∷ [];
    }

-- ---- an election word, for the leader of its view

abbrev pub elected :
    (shard replica : ℕ) → TransactionValue → Decision → (view : ℕ) (signature : List ℕ) → ElectValue
elected shard r t d view signature =
    record { transaction = t; shard = shard; replica = r; decision = d; view = view; signature = signature }

abbrev pub leads : Setting → TransactionValue → (view : ℕ) → Party
leads c t view = Replica (log_shard c t) (leader_of c t.time view)

abbrev pub unsaid_word : Setting → (shard replica : ℕ) → TransactionValue → Decision → (view : ℕ) → Unsaid
unsaid_word c shard r t d view =
    record {
      party = Replica shard r;
      words = ElectionWords (record { shard = shard; replica = r; id = id t; decision = d; view = view });
      sent = λ signature. record { to = leads c t view; message = Elect (elected shard r t d view signature) } ∷ [];
    }

-- ---- a proposal with these words, for one replica of the shard

abbrev pub proposed :
    (shard replica : ℕ) → TransactionValue → Decision → (view : ℕ) → List WordValue → (signature : List ℕ) → DecideValue
proposed shard r t d view words signature =
    record {
      transaction = t;
      shard = shard;
      replica = r;
      decision = d;
      view = view;
      words = words;
      signature = signature;
    }

abbrev pub unsaid_proposal :
    (shard replica : ℕ) → TransactionValue → Decision → (view to : ℕ) → List WordValue → Unsaid
unsaid_proposal shard r t d view to words =
    record {
      party = Replica shard r;
      words = ProposalWords (record { shard = shard; replica = r; id = id t; decision = d; view = view });
      sent = λ signature.
          record { to = Replica shard to; message = Decide (proposed shard r t d view words signature) } ∷ [];
    }

-- ---- a client's first stage, for every replica of every involved shard

abbrev pub unsaid_first : Setting → TransactionValue → Unsaid
unsaid_first c t =
    record {
      party = Client t.client;
      words = TransactionWords (id t);
      sent = λ signature. to_involved c t (St1 (record { transaction = t; signature = signature }));
    }

-- ---- the lies of a run

-- with the next signature of its party it is this lie
pub record IsSaid (s : Setup) (st : State) (u : Unsaid) (lie : LieValue) : Type 0 where
  pub words : lie.words ≡ u.words
  pub sent : u.sent (faulty_signature s st u.party u.words) ≡ lie.envelope ∷ []
