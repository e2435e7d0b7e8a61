-- The answer to an invoke: a view is entered, with a word for its election (Basil, fallback).
use Rattle.std.specs.Prelude.{ℕ, List, [], ◌∷◌, Option, Some, None, Result, Err, map, nat_lt}
use Rattle.basil_types.specs.Built.{or_else}
use Rattle.basil_types.specs.declared.party.Party.{Party}
use Rattle.basil_types.specs.declared.party.Party.TheVariants.{Replica}
use Rattle.basil_types.specs.Transaction.{TransactionValue}
use Rattle.decision_log.specs.Cells.{entered}
use Rattle.fallback_views.specs.Views.{raised}
use Rattle.frame_views.specs.Values.{InvokeValue, ElectValue, Elect, ReplyValue}
use Rattle.node_steps.specs.Pens.{after_one}
use Rattle.node_steps.specs.Refusing.{needs, unless}
use Rattle.txn_meta.specs.Places.{leader_of}
use Rattle.txn_table.specs.Entries.{EntryValue}
use Rattle.txn_table.specs.Tables.{entry_with}
use Rattle.replica_core.specs.declared.refusal.Refusal.{Refusal}
use Rattle.replica_core.specs.declared.refusal.Refusal.TheVariants.{NotLogged, StaleView}
use Rattle.replica_core.specs.Replicas.{ReplicaSelf, LoggedEntry, BookValue, Done}
use Rattle.replica_core.specs.Known.{logged_with, put_logged, asked_by}
use Rattle.replica_core.specs.Signing.{election_words, signature, exhausted}
use Rattle.replica_core.specs.FirstStage.{unless_ended}

-- the views that the log replies of an invoke report
abbrev pub reported : InvokeValue → List ℕ
reported m = map (λ (r : ReplyValue). r.current) m.replies

-- the view isn't raised
abbrev pub stale : ℕ → ℕ → Option Refusal
stale current view = needs (nat_lt current view) (StaleView current)

abbrev pub elect_value : ReplicaSelf → BookValue → TransactionValue → LoggedEntry → ℕ → ElectValue
elect_value me book t l view =
    record {
      transaction = t;
      shard = me.home.shard;
      replica = me.index;
      decision = l.cell.decision;
      view = view;
      signature = signature me book.pen (election_words me l.id l.cell.decision view);
    }

-- the cell is in the new view, and the word for its election goes to its leader
abbrev pub enter_done : ReplicaSelf → Party → BookValue → TransactionValue → LoggedEntry → ℕ → Done
enter_done me from book t l view =
    let moved : LoggedEntry = record l { cell = entered l.cell view; reply = None; askers = asked_by from l.askers } in
    let leader = Replica me.home.shard (leader_of me.home.cluster t.time view) in
    record {
      book = record book { logged = put_logged moved book.logged; pen = after_one book.pen };
      signed = election_words me l.id l.cell.decision view ∷ [];
      sent = record { to = leader; message = Elect (elect_value me book t l view) } ∷ [];
    }

abbrev pub enter_view : ReplicaSelf → Party → BookValue → TransactionValue → LoggedEntry → ℕ → Result Done Refusal
enter_view me from book t l view =
    unless (or_else (stale l.cell.current view) (exhausted 1 book.pen)) (enter_done me from book t l view)

abbrev pub raised_view : ReplicaSelf → InvokeValue → LoggedEntry → ℕ
raised_view me m l = raised me.home.cluster.f (reported m) l.cell.current

-- what is logged is of a known transaction
abbrev pub invoke_logged :
    ReplicaSelf → Party → BookValue → InvokeValue → Option EntryValue → Option LoggedEntry → Result Done Refusal
invoke_logged me from book m (Some e) (Some l) = enter_view me from book e.transaction l (raised_view me m l)
invoke_logged me from book m (Some e) None = Err NotLogged
invoke_logged me from book m None l = Err NotLogged

abbrev pub answer_invoke : ReplicaSelf → Party → BookValue → InvokeValue → Result Done Refusal
answer_invoke me from book m =
    unless_ended from book m.id
    (invoke_logged me from book m (entry_with book.entries m.id) (logged_with book.logged m.id))
