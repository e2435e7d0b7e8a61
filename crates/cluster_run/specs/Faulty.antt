-- What faulty parties sign and send, as a schedule says it.
use Rattle.std.specs.Prelude.{ℕ, ◌+◌, List, [], ◌∷◌, ◌++◌, Bool, not, ◌&&◌, ◌==◌, Option, Some, None, Result, Ok, Err}
use Rattle.std.specs.Prelude.{filter, filter_map, find, map, length, take, slice_get, nat_lt, nat_le, if◌then◌else◌}
use Rattle.std.specs.List.{count_by}
use Rattle.std.specs.Option.{option_map_or}
use Rattle.std.specs.Str.{bytes_eq}
use Rattle.basil_types.specs.Built.{or_else}
use Rattle.basil_types.specs.Decision.{same_decision}
use Rattle.basil_types.specs.declared.party.Party.{Party}
use Rattle.basil_types.specs.declared.party.Party.TheVariants.{Replica, Client}
use Rattle.basil_types.specs.declared.party.Decision.{Decision}
use Rattle.basil_types.specs.declared.party.Decision.TheVariants.{Commit, Abort}
use Rattle.basil_types.specs.Transaction.{TransactionValue, id}
use Rattle.basil_types.specs.Words.{SignedWords, VoteWords, LogReplyWords, ElectionWords, ProposalWords, words_of}
use Rattle.certificates.specs.Accepted.{accepts}
use Rattle.client_recover.specs.Counting.{all_replicas, as_vote}
use Rattle.frame_views.specs.declared.fault.BadFrame.{BadFrame}
use Rattle.frame_views.specs.Fitting.{bounds_of}
use Rattle.frame_views.specs.Frames.{frame_in}
use Rattle.frame_views.specs.Signed.{vote_signed, word_signed}
use Rattle.frame_views.specs.Values.{MessageValue, VotedValue, TallyValue, ElectValue}
use Rattle.frame_views.specs.Values.{WordValue, LogReplyValue, DecideValue, St2Value}
use Rattle.frame_views.specs.Values.{Vote, St2, LogReply, Elect, Decide}
use Rattle.node_steps.specs.Envelopes.{EnvelopeValue}
use Rattle.node_steps.specs.Lists.{firsts, by_number}
use Rattle.premise_watch.specs.Breaches.{NotedWords}
use Rattle.quorum_laws.specs.Numbers.{commit_tally, abort_tally, log_quorum}
use Rattle.txn_meta.specs.Places.{involved, log_shard, leader_of}
use Rattle.txn_table.specs.Entries.{same_party}
use Rattle.cluster_run.specs.declared.fault.WorldFault.{WorldFault}
use Rattle.cluster_run.specs.declared.fault.WorldFault.TheVariants as fault
use Rattle.cluster_run.specs.States.{Setup, is_faulty, Posted, State, FormedValue}
use Rattle.cluster_run.specs.Parts.{Mail, enter, mail_of}

-- ---- signing

-- how often a faulty party has signed
abbrev pub spent_by : State → Party → ℕ
spent_by st p = count_by (λ (n : NotedWords). same_party p n.party) st.lied

-- the next signature of its pen
abbrev pub faulty_signature : Setup → State → Party → SignedWords → List ℕ
faulty_signature s st p words = (s.kit.signing p).gives ((s.kit.pen p).spent + spent_by st p) (words_of words)

abbrev pub after_lie : State → Party → SignedWords → State
after_lie st p words = record st { lied = st.lied ++ record { party = p; words = words } ∷ [] }

-- a faulty party that has a signature left
abbrev pub has_left : Setup → State → Party → Bool
has_left s st p = is_faulty s p && nat_lt (spent_by st p) (s.kit.pen p).left

-- what a faulty party is to sign, and to send with that signature
pub record LieValue : Type 0 where
  pub words : SignedWords
  pub envelope : EnvelopeValue

-- it signs, and what it says enters the pool
abbrev pub lies : Setup → Party → LieValue → State → Result State WorldFault
lies s p lie st =
    if has_left s st p then enter s (mail_of p lie.envelope ∷ []) (after_lie st p lie.words) else Err
    (fault.Exhausted p)

-- ---- what is taken from the pool, whoever sent it

abbrev pub read_or_none : Result MessageValue BadFrame → Option MessageValue
read_or_none (Ok m) = Some m
read_or_none (Err e) = None

abbrev pub message_of : Setup → Posted → Option MessageValue
message_of s p = read_or_none (frame_in (bounds_of s.cluster) p.frame)

abbrev pub messages : Setup → State → List MessageValue
messages s st = filter_map (message_of s) st.pool

-- votes on a transaction, by the first of each replica

abbrev pub vote_in : MessageValue → Option VotedValue
vote_in (Vote v) = Some v
vote_in _ = None

abbrev pub is_vote : Setup → TransactionValue → Decision → ℕ → VotedValue → Bool
is_vote s t d shard v =
    (v.shard == shard) && bytes_eq v.id (id t) && same_decision v.decision d
    && accepts s.kit.accepts (vote_signed v.shard v.id v.decision (as_vote v))

abbrev pub same_voter : VotedValue → VotedValue → Bool
same_voter v w = v.replica == w.replica

abbrev pub pool_votes : Setup → State → TransactionValue → Decision → ℕ → List VotedValue
pool_votes s st t d shard = firsts same_voter (filter (is_vote s t d shard) (filter_map vote_in (messages s st)))

-- at most so many, in order of their messages, and listed by replica
abbrev pub tally_from : Setup → State → TransactionValue → Decision → (needed shard : ℕ) → TallyValue
tally_from s st t d needed shard =
    let votes = take needed (pool_votes s st t d shard) in
    record {
      shard = shard;
      votes = map as_vote (by_number (λ (v : VotedValue). v.replica) (all_replicas s.cluster) votes);
    }

-- the lowest involved shard with enough votes to abort, or else the lowest involved one
abbrev pub abort_shard : Setup → State → TransactionValue → Option ℕ
abort_shard s st t =
    or_else
    (find (λ shard. nat_le (abort_tally s.cluster.f) (length (pool_votes s st t Abort shard))) (involved s.cluster t))
    (slice_get (involved s.cluster t) 0)

abbrev pub tallies_from : Setup → State → TransactionValue → Decision → List TallyValue
tallies_from s st t Commit = map (tally_from s st t Commit (commit_tally s.cluster.f)) (involved s.cluster t)
tallies_from s st t Abort =
    option_map_or (λ shard. tally_from s st t Abort (abort_tally s.cluster.f) shard ∷ []) (abort_shard s st t) []

-- election words of a shard for a view: those with the decision first, then others, at most a log quorum

abbrev pub word_in : MessageValue → Option ElectValue
word_in (Elect m) = Some m
word_in _ = None

abbrev pub as_listed : ElectValue → WordValue
as_listed m = record { replica = m.replica; decision = m.decision; signature = m.signature }

abbrev pub is_word : Setup → TransactionValue → (shard view : ℕ) → ElectValue → Bool
is_word s t shard view m =
    (m.shard == shard) && (m.view == view) && bytes_eq (id m.transaction) (id t)
    && accepts s.kit.accepts (word_signed m.shard (id m.transaction) m.view (as_listed m))

abbrev pub same_elector : ElectValue → ElectValue → Bool
same_elector v w = v.replica == w.replica

abbrev pub names : Decision → ElectValue → Bool
names d m = same_decision m.decision d

abbrev pub pool_words : Setup → State → TransactionValue → Decision → (shard view : ℕ) → List ElectValue
pool_words s st t d shard view =
    let words = filter (is_word s t shard view) (filter_map word_in (messages s st)) in
    let ordered = filter (names d) words ++ filter (λ m. not (names d m)) words in
    take (log_quorum s.cluster.f) (firsts same_elector ordered)

abbrev pub words_from : Setup → State → TransactionValue → Decision → (shard view : ℕ) → List WordValue
words_from s st t d shard view =
    let words = pool_words s st t d shard view in
    map as_listed (by_number (λ (m : ElectValue). m.replica) (all_replicas s.cluster) words)

-- ---- the lines of faulty parties

abbrev pub faulty_vote : Setup → (shard replica : ℕ) → TransactionValue → Decision → (client : ℕ) → State → LieValue
faulty_vote s shard r t d client st =
    let words = VoteWords (record { shard = shard; replica = r; id = id t; decision = d }) in
    let signature = faulty_signature s st (Replica shard r) words in
    let vote : VotedValue = record {
      shard = shard;
      replica = r;
      id = id t;
      decision = d;
      proof = None;
      signature =
          signature;
    } in
    record { words = words; envelope = record { to = Client client; message = Vote vote } }

abbrev pub faulty_reply :
    Setup → (shard replica : ℕ) → TransactionValue → Decision → (decided current client : ℕ) → State → LieValue
faulty_reply s shard r t d decided current client st =
    let words = LogReplyWords (record {
      shard = shard;
      replica = r;
      id = id t;
      decision = d;
      decided = decided;
      current = current;
    }) in
    let reply : LogReplyValue = record {
      shard = shard;
      replica = r;
      id = id t;
      decision = d;
      decided = decided;
      current = current;
      signature = faulty_signature s st (Replica shard r) words;
    } in
    record { words = words; envelope = record { to = Client client; message = LogReply reply } }

abbrev pub faulty_word : Setup → (shard replica : ℕ) → TransactionValue → Decision → (view : ℕ) → State → LieValue
faulty_word s shard r t d view st =
    let words = ElectionWords (record { shard = shard; replica = r; id = id t; decision = d; view = view }) in
    let leader = Replica (log_shard s.cluster t) (leader_of s.cluster t.time view) in
    let elect : ElectValue = record {
      transaction = t;
      shard = shard;
      replica = r;
      decision = d;
      view = view;
      signature = faulty_signature s st (Replica shard r) words;
    } in
    record { words = words; envelope = record { to = leader; message = Elect elect } }

abbrev pub faulty_proposal :
    Setup → (shard replica : ℕ) → TransactionValue → Decision → (view to : ℕ) → State → LieValue
faulty_proposal s shard r t d view to st =
    let words = ProposalWords (record { shard = shard; replica = r; id = id t; decision = d; view = view }) in
    let decide : DecideValue = record {
      transaction = t;
      shard = shard;
      replica = r;
      decision = d;
      view = view;
      words = words_from s st t d shard view;
      signature = faulty_signature s st (Replica shard r) words;
    } in
    record { words = words; envelope = record { to = Replica shard to; message = Decide decide } }

-- a faulty client's second stage is not signed anew
abbrev pub faulty_second : Setup → FormedValue → Decision → (replica : ℕ) → State → List Mail
faulty_second s f d r st =
    let tallies = tallies_from s st f.transaction d in
    let second : St2Value = record {
      transaction = f.transaction;
      signature = f.signature;
      decision = d;
      tallies =
          tallies;
    } in
    let to = Replica (log_shard s.cluster f.transaction) r in
    mail_of (Client f.transaction.client) (record { to = to; message = St2 second }) ∷ []
