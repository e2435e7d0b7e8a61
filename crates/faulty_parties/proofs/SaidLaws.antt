-- What waits for a signature, and what it says then.
use Rattle.std.proofs.Common.{◌≡◌, ◌∙◌, ℕ, List, [], ◌∷◌, ◌++◌, Ok, Err, map, sym, ap}
use Rattle.std.specs.Prelude.{IfOk, Result}
use Rattle.basil_types.specs.declared.memory.NoMemory.{NoMemory}
use Rattle.basil_types.specs.declared.party.Decision.{Decision}
use Rattle.basil_types.specs.declared.party.Party.{Party}
use Rattle.basil_types.specs.declared.party.Party.TheVariants.{Replica, Client}
use Rattle.basil_types.specs.Setting.{Setting}
use Rattle.basil_types.specs.Transaction.{TransactionValue, id, long_text}
use Rattle.basil_types.specs.Words.{VoteWords, LogReplyWords, ElectionWords, ProposalWords, TransactionWords, words_of}
use Rattle.frame_views.specs.Values.{DecideValue, ElectValue, LogReplyValue, SignedValue, VotedValue, WordValue}
use Rattle.frame_views.specs.Values.{Decide, Elect, LogReply, St1, Vote}
use Rattle.frame_writing.specs.Unsigned.{EndsSigned, unsigned_decide, unsigned_elect, unsigned_log_reply, unsigned_st1, unsigned_vote}
use Rattle.node_steps.specs.declared.pending.Pending.{Pending}
use Rattle.node_steps.specs.Pendings.{Front, front_of, sealed_all}
use Rattle.faulty_parties.specs.declared.lie.Lie.{Lie}
use Rattle.faulty_parties.specs.Fronts.{fronts_in}
use Rattle.faulty_parties.specs.Lies.{Says, Waits}
use Rattle.faulty_parties.specs.Unsaid.{Unsaid, elected, leads, proposed, replied, unsaid_first}
use Rattle.faulty_parties.specs.Unsaid.{unsaid_proposal, unsaid_reply, unsaid_vote, unsaid_word, voted}
use Rattle.faulty_parties.proofs.SentLaws.{sent_involved, sent_one}

-- a lie says what waits in it
pub lie_says : (r : Result Lie NoMemory) (p : Pending) (u : Unsaid) → IfOk r (λ lie. lie.pending ≡ p) → Waits u p → IfOk r (Says u)
lie_says (Ok lie) p u e w =
    record { words = ap (λ (q : Pending). q.words) e ∙ w.words; frames = λ signature. ap (sealed_all signature) e ∙ w.frames signature }
lie_says (Err e) p u f w = tt

abbrev one_front : Party → List ℕ → List Front
one_front to frame = record { to = to; bytes = frame } ∷ []

pub vote_waits : (shard r : ℕ) (t : TransactionValue) (d : Decision) (client : ℕ) (i frame : List ℕ) (p : Pending) → i ≡ id t →
    p.words ≡ words_of (VoteWords (record { shard = shard; replica = r; id = i; decision = d })) →
    map front_of p.frames.items ≡ one_front (Client client) frame → frame ≡ unsigned_vote (voted shard r i d []) →
    ((m : VotedValue) → EndsSigned (Vote m) (unsigned_vote m) m.signature) → Waits (unsaid_vote shard r t d client) p
vote_waits shard r t d client i frame p e w f is ends =
    record {
      words = w ∙ ap (λ j. words_of (VoteWords (record { shard = shard; replica = r; id = j; decision = d }))) e;
      frames = λ signature.
          sent_one signature frame (Client client) (Vote (voted shard r (id t) d signature)) p f
          (ends (voted shard r (id t) d signature)
          ∙ ap (λ (b : List ℕ). b ++ long_text signature) (sym (is ∙ ap (λ j. unsigned_vote (voted shard r j d [])) e)));
    }

pub reply_waits : (shard r : ℕ) (t : TransactionValue) (d : Decision) (decided current client : ℕ) (i frame : List ℕ) (p : Pending) →
    i ≡ id t → p.words ≡ words_of (LogReplyWords (record {
      shard = shard;
      replica = r;
      id = i;
      decision = d;
      decided = decided;
      current = current;
    })) → map front_of p.frames.items ≡ one_front (Client client) frame →
    frame ≡ unsigned_log_reply (replied shard r i d decided current []) →
    ((m : LogReplyValue) → EndsSigned (LogReply m) (unsigned_log_reply m) m.signature) →
    Waits (unsaid_reply shard r t d decided current client) p
reply_waits shard r t d decided current client i frame p e w f is ends =
    record {
      words = w ∙ ap (λ j. words_of (LogReplyWords (record {
        shard = shard;
        replica = r;
        id = j;
        decision = d;
        decided = decided;
        current = current;
      }))) e;
      frames = λ signature.
          sent_one signature frame (Client client) (LogReply (replied shard r (id t) d decided current signature)) p f
          (ends (replied shard r (id t) d decided current signature)
          ∙ ap (λ (b : List ℕ). b ++ long_text signature)
          (sym (is ∙ ap (λ j. unsigned_log_reply (replied shard r j d decided current [])) e)));
    }

pub word_waits : (c : Setting) (shard r : ℕ) (t : TransactionValue) (d : Decision) (view : ℕ) (i frame : List ℕ) (to : Party)
    (p : Pending) → i ≡ id t → to ≡ leads c t view →
    p.words ≡ words_of (ElectionWords (record { shard = shard; replica = r; id = i; decision = d; view = view })) →
    map front_of p.frames.items ≡ one_front to frame → frame ≡ unsigned_elect (elected shard r t d view []) →
    ((m : ElectValue) → EndsSigned (Elect m) (unsigned_elect m) m.signature) → Waits (unsaid_word c shard r t d view) p
word_waits c shard r t d view i frame to p e l w f is ends =
    record {
      words = w ∙ ap (λ j. words_of (ElectionWords (record { shard = shard; replica = r; id = j; decision = d; view = view }))) e;
      frames = λ signature.
          sent_one signature frame (leads c t view) (Elect (elected shard r t d view signature)) p (f ∙ ap (λ q. one_front q frame) l)
          (ends (elected shard r t d view signature) ∙ ap (λ (b : List ℕ). b ++ long_text signature) (sym is));
    }

pub proposal_waits : (shard r : ℕ) (t : TransactionValue) (d : Decision) (view to : ℕ) (words : List WordValue) (i frame : List ℕ)
    (p : Pending) → i ≡ id t →
    p.words ≡ words_of (ProposalWords (record { shard = shard; replica = r; id = i; decision = d; view = view })) →
    map front_of p.frames.items ≡ one_front (Replica shard to) frame → frame ≡ unsigned_decide (proposed shard r t d view words []) →
    ((m : DecideValue) → EndsSigned (Decide m) (unsigned_decide m) m.signature) →
    Waits (unsaid_proposal shard r t d view to words) p
proposal_waits shard r t d view to words i frame p e w f is ends =
    record {
      words = w ∙ ap (λ j. words_of (ProposalWords (record { shard = shard; replica = r; id = j; decision = d; view = view }))) e;
      frames = λ signature.
          sent_one signature frame (Replica shard to) (Decide (proposed shard r t d view words signature)) p f
          (ends (proposed shard r t d view words signature) ∙ ap (λ (b : List ℕ). b ++ long_text signature) (sym is));
    }

abbrev signed_by : TransactionValue → List ℕ → SignedValue
signed_by t signature = record { transaction = t; signature = signature }

pub first_waits : (c : Setting) (t : TransactionValue) (i frame : List ℕ) (p : Pending) → i ≡ id t →
    p.words ≡ words_of (TransactionWords i) → map front_of p.frames.items ≡ fronts_in c frame t →
    frame ≡ unsigned_st1 (signed_by t []) → ((m : SignedValue) → EndsSigned (St1 m) (unsigned_st1 m) m.signature) →
    Waits (unsaid_first c t) p
first_waits c t i frame p e w f is ends =
    record {
      words = w ∙ ap (λ j. words_of (TransactionWords j)) e;
      frames = λ signature.
          sent_involved signature frame (St1 (signed_by t signature))
          (ends (signed_by t signature) ∙ ap (λ (b : List ℕ). b ++ long_text signature) (sym is)) c t p f;
    }
