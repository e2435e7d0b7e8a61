-- The answers to election words and to a leader's decision (Basil, fallback).
use Rattle.std.specs.Prelude.{ℕ, List, [], ◌∷◌, ◌==◌, Option, Some, None, option_map, Result, Ok, length, map}
use Rattle.std.specs.List.{range_with_len}
use Rattle.std.specs.Option.{option_map_or}
use Rattle.basil_types.specs.Built.{or_else}
use Rattle.basil_types.specs.declared.party.Party.TheVariants.{Replica, Client}
use Rattle.basil_types.specs.Transaction.{TransactionValue, id}
use Rattle.decision_log.specs.Cells.{cell_of, adopt_fault}
use Rattle.decision_log.specs.declared.cell.LogFault.{LogFault}
use Rattle.decision_log.specs.declared.cell.LogFault.TheVariants as fault
use Rattle.fallback_leader.specs.Elections.{collected, proposal_of, ProposalValue, naming_by, are_enough}
use Rattle.frame_values.specs.declared.owned.ElectPart.{ElectPart}
use Rattle.frame_views.specs.Values.{WordValue, ElectValue, DecideValue, Decide}
use Rattle.node_steps.specs.Envelopes.{EnvelopeValue}
use Rattle.node_steps.specs.Pens.{after_one}
use Rattle.node_steps.specs.Refusing.{needs, unless, unless_refused}
use Rattle.quorum_laws.specs.Numbers.{replicas}
use Rattle.txn_meta.specs.Places.{leader_of}
use Rattle.replica_core.specs.declared.refusal.Refusal.{Refusal}
use Rattle.replica_core.specs.declared.refusal.Refusal.TheVariants.{NotLeader, StaleView, AlreadyDecidedIn, BadElection}
use Rattle.replica_core.specs.Replicas.{ReplicaSelf, LoggedEntry, BookValue, Done, quiet}
use Rattle.replica_core.specs.Known.{with_known, known_of, logged_with, put_logged}
use Rattle.replica_core.specs.Signing.{log_words, proposal_words, signature, exhausted}
use Rattle.replica_core.specs.SecondStage.{log_reply, reply_to}

-- this replica of the log shard isn't the leader of the view
abbrev pub not_leader : ReplicaSelf → TransactionValue → ℕ → ℕ → Option Refusal
not_leader me t view replica = needs (leader_of me.home.cluster t.time view == replica) NotLeader

-- ---- words for the own election

abbrev pub word_of : ElectValue → ElectPart
word_of m = record { replica = m.replica; decision = m.decision; signature = m.signature }

abbrev pub as_listed : ElectPart → WordValue
as_listed w = record { replica = w.replica; decision = w.decision; signature = w.signature }

abbrev pub decide_value : ReplicaSelf → BookValue → TransactionValue → ℕ → ProposalValue → DecideValue
decide_value me book t view p =
    record {
      transaction = t;
      shard = me.home.shard;
      replica = me.index;
      decision = p.decision;
      view = view;
      words = map as_listed p.words;
      signature = signature me book.pen (proposal_words me (id t) p.decision view);
    }

-- to every replica of the shard, ascending
abbrev pub decide_to_all : ReplicaSelf → DecideValue → List EnvelopeValue
decide_to_all me d =
    map (λ r. record { to = Replica me.home.shard r; message = Decide d })
    (range_with_len 0 (replicas me.home.cluster.f))

abbrev pub kept_after : ReplicaSelf → BookValue → TransactionValue → ElectValue → BookValue
kept_after me book t m = record book { kept = collected me.home.cluster.f book.kept (id t) m.view (word_of m) }

-- the words of an election are complete
abbrev pub propose_done : ReplicaSelf → BookValue → TransactionValue → ElectValue → ProposalValue → Done
propose_done me book t m p =
    record {
      book = record (kept_after me book t m) { pen = after_one book.pen };
      signed = proposal_words me (id t) p.decision m.view ∷ [];
      sent = decide_to_all me (decide_value me book t m.view p);
    }

abbrev pub collect_by :
    ReplicaSelf → BookValue → TransactionValue → ElectValue → Option ProposalValue → Result Done Refusal
collect_by me book t m None = Ok (quiet (kept_after me book t m))
collect_by me book t m (Some p) = unless (exhausted 1 book.pen) (propose_done me book t m p)

abbrev pub collect : ReplicaSelf → BookValue → TransactionValue → ElectValue → Result Done Refusal
collect me book t m = collect_by me book t m (proposal_of me.home.cluster.f book.kept (id t) m.view (word_of m))

abbrev pub answer_elect : ReplicaSelf → BookValue → ElectValue → Result Done Refusal
answer_elect me book m =
    let t = known_of book.entries m.transaction in
    unless_refused (not_leader me t m.view me.index) (collect me book t m)

-- ---- a leader's decision

abbrev pub fault_of : LogFault → Refusal
fault_of (fault.StaleView view) = StaleView view
fault_of (fault.AlreadyDecidedIn view) = AlreadyDecidedIn view

abbrev pub not_adopted : Option LoggedEntry → ℕ → Option Refusal
not_adopted l view = option_map fault_of (adopt_fault (option_map (λ (l : LoggedEntry). l.cell) l) view)

-- the words that name the decision
abbrev pub agreeing : DecideValue → ℕ
agreeing m = naming_by (λ (w : WordValue). w.decision) m.decision m.words

abbrev pub bad_election : ReplicaSelf → DecideValue → Option Refusal
bad_election me m =
    needs (are_enough me.home.cluster.f (length m.words) (agreeing m)) (BadElection (length m.words) (agreeing m))

abbrev pub askers_with : Option LoggedEntry → List ℕ
askers_with l = option_map_or (λ (l : LoggedEntry). l.askers) l []

-- the decision is adopted, and the reply that says so goes to each asker
abbrev pub adopt_done : ReplicaSelf → BookValue → TransactionValue → DecideValue → Option LoggedEntry → Done
adopt_done me book t m l =
    let cell = cell_of m.decision m.view in
    let given = signature me book.pen (log_words me (id t) cell) in
    let adopted : LoggedEntry = record { id = id t; cell = cell; reply = Some given; askers = askers_with l } in
    record {
      book = record book {
        entries = with_known book.entries t;
        logged = put_logged adopted book.logged;
        pen = after_one book.pen;
      };
      signed = log_words me (id t) cell ∷ [];
      sent = map (λ number. reply_to (Client number) (log_reply me (id t) cell given)) (askers_with l);
    }

abbrev pub adopt_refusal : ReplicaSelf → BookValue → TransactionValue → DecideValue → Option LoggedEntry →
    Option Refusal
adopt_refusal me book t m l =
    or_else (not_leader me t m.view m.replica)
    (or_else (not_adopted l m.view)
    (or_else (bad_election me m) (exhausted 1 book.pen)))

abbrev pub adopt_by :
    ReplicaSelf → BookValue → TransactionValue → DecideValue → Option LoggedEntry → Result Done Refusal
adopt_by me book t m l = unless (adopt_refusal me book t m l) (adopt_done me book t m l)

abbrev pub answer_decide : ReplicaSelf → BookValue → DecideValue → Result Done Refusal
answer_decide me book m =
    adopt_by me book (known_of book.entries m.transaction) m (logged_with book.logged (id m.transaction))
