-- Planned changes of what is logged are those of the answers.
use Rattle.std.proofs.Common.{◌≡◌, ℕ, List, [], ◌∷◌, ◌++◌, map, Option, Some, None, Result, Ok, Err, sym, ap, ◌∙◌}
use Rattle.std.specs.Prelude.{Vec, IfOk}
use Rattle.std.specs.Global.{Global}
use Rattle.basil_types.specs.Built.{or_else}
use Rattle.basil_types.specs.declared.outbox.Envelope.{Envelope}
use Rattle.basil_types.specs.declared.party.Party.{Party}
use Rattle.basil_types.specs.declared.party.Party.TheVariants.{Replica, Client}
use Rattle.basil_types.specs.Transaction as transactions
use Rattle.basil_types.specs.Transaction.{TransactionValue, long_text}
use Rattle.basil_types.specs.Words.{words_of}
use Rattle.certificates.specs.Accepted.{Accepted}
use Rattle.decision_log.specs.Cells.{cell_of, entered}
use Rattle.decision_log.specs.declared.cell.LogCell.{LogCell}
use Rattle.frame_views.specs.Spelling.{spelling}
use Rattle.frame_views.specs.Values.{LogReplyValue, LogReply, ElectValue, Elect, DecideValue}
use Rattle.frame_writing.specs.Unsigned.{unsigned_log_reply, unsigned_elect, EndsSigned}
use Rattle.keyring.specs.Signing.{Signing}
use Rattle.node_steps.specs.declared.pending.Pending.{Pending}
use Rattle.node_steps.specs.Envelopes.{EnvelopeValue}
use Rattle.node_steps.specs.Framed.{framed}
use Rattle.node_steps.specs.Pendings.{fronts_of, sealed_all}
use Rattle.node_steps.specs.Pens.{after_one}
use Rattle.node_steps.specs.Refusing.{unless}
use Rattle.txn_meta.specs.Places.{leader_of}
use Rattle.txn_table.specs.Entries.{EntryValue}
use Rattle.replica_core.specs.declared.seat.Seat.{Seat}
use Rattle.replica_core.specs.declared.logging.LogWork.{LogWork}
use Rattle.replica_core.specs.declared.refusal.Refusal.{Refusal}
use Rattle.replica_core.specs.declared.logging.Said.TheVariants.{Again, Anew, Entered}
use Rattle.replica_core.specs.ElectFronts.{elect_said, front_for}
use Rattle.replica_core.specs.Elections.{adopt_done, askers_with}
use Rattle.replica_core.specs.Holding.{arrived_in}
use Rattle.replica_core.specs.Invokes.{stale, enter_view, enter_done}
use Rattle.replica_core.specs.Known.{with_known, put_logged, asked_by}
use Rattle.replica_core.specs.LogFronts.{said_reply, said_words_of, logged_at}
use Rattle.replica_core.specs.LogWorks.{CanSay, perform_log}
use Rattle.replica_core.specs.Replicas.{LoggedEntry, BookValue}
use Rattle.replica_core.specs.Seats.{self_at}
use Rattle.replica_core.specs.SecondStage.{log_reply, reply_to, reply_anew, reply_again}
use Rattle.replica_core.specs.Signing.{exhausted, election_words, log_words}
use Rattle.replica_core.specs.Telling.{Told, told_of, begun}
use Rattle.replica_core.proofs.Sends.{sends, sends_one}

abbrev pub LogRepliesEnd : Type 0
LogRepliesEnd = (m : LogReplyValue) → EndsSigned (LogReply m) (unsigned_log_reply m) m.signature

abbrev pub ElectsEnd : Type 0
ElectsEnd = (m : ElectValue) → EndsSigned (Elect m) (unsigned_elect m) m.signature

module _ (seat : Seat) (accepts : Accepted) (signing : Signing) (book : BookValue) where
  -- what is logged, signed and sent, with these entries
  made : List EntryValue → LoggedEntry → List (List ℕ) → List Envelope → Told
  made es l signed sent =
      record {
        book = record book { entries = es; logged = put_logged l book.logged; pen = after_one book.pen };
        signed = signed;
        sent = sent;
      }

  log : List ℕ → LogCell → Option (List ℕ) → List ℕ → LoggedEntry
  log id cell reply askers = record { id = id; cell = cell; reply = reply; askers = askers }

  module _ (from : Party) (t : TransactionValue) (id : List ℕ) (cell : LogCell) (askers : List ℕ) (arrives : Option TransactionValue)
      (asked : Vec ℕ Global) (law : LogRepliesEnd)
      (entries : arrived_in book.entries arrives ≡ with_known book.entries t) (asks : asked.items ≡ asked_by from askers) where
    pub anew_planned : (p : Pending) → exhausted 1 book.pen ≡ None → p.words ≡ words_of (said_words_of seat id cell)
        → fronts_of p ≡ front_for (unsigned_log_reply (said_reply seat id cell)) from ∷ []
        → told_of (unless (exhausted 1 book.pen) (reply_anew (self_at seat accepts signing) from book t (logged_at id cell askers)))
        ≡ Ok (perform_log signing (begun book) (record { arrives = arrives; id = id; cell = cell; askers = asked; said = Anew p }))
    unfolding made log
    anew_planned p left words fronts =
        let me = self_at seat accepts signing in
        let gives = signing.gives book.pen.spent in
        let reply : List ℕ
        → List Envelope = λ w. framed
        (reply_to from (log_reply (self_at seat accepts signing) id cell (signing.gives book.pen.spent w))) ∷ [] in
        let g = signing.gives book.pen.spent p.words in
        let sent : framed (reply_to from (log_reply (self_at seat accepts signing) id cell g)) ∷ [] ≡ sealed_all g p =
        sends_one (LogReply (log_reply (self_at seat accepts signing) id cell g)) (unsigned_log_reply (said_reply seat id cell)) g p from
        (law (log_reply (self_at seat accepts signing) id cell g)) fronts in
        ap (λ o. told_of (unless o (reply_anew (self_at seat accepts signing) from book t (logged_at id cell askers)))) left
        ∙ ap Ok
        (ap
        (λ w. made (with_known book.entries t) (log id cell (Some (signing.gives book.pen.spent w)) (asked_by from askers)) (w ∷ [])
        (framed (reply_to from (log_reply (self_at seat accepts signing) id cell (signing.gives book.pen.spent w))) ∷ []))
        (sym words)
        ∙ ap
        (λ es. made es (log id cell (Some g) (asked_by from askers)) (p.words ∷ [])
        (framed (reply_to from (log_reply (self_at seat accepts signing) id cell g)) ∷ [])) (sym entries)
        ∙ ap
        (λ ns. made (arrived_in book.entries arrives) (log id cell (Some g) ns) (p.words ∷ [])
        (framed (reply_to from (log_reply (self_at seat accepts signing) id cell g)) ∷ [])) (sym asks)
        ∙ ap (made (arrived_in book.entries arrives) (log id cell (Some g) asked.items) (p.words ∷ [])) sent)

    pub again_planned : (stored frame : List ℕ) → frame ≡ unsigned_log_reply (said_reply seat id cell) ++ long_text stored
        → told_of (Ok (reply_again (self_at seat accepts signing) from book t (logged_at id cell askers) stored))
        ≡ Ok
        (perform_log signing (begun book)
        (record {
          arrives = arrives;
          id = id;
          cell = cell;
          askers = asked;
          said = Again stored
              (record { to = from; frame = frame });
        }))
    again_planned stored frame is =
        let told : List EntryValue → List ℕ → List ℕ → Told =
        λ es ns frame.
        let l : LoggedEntry = record { id = id; cell = cell; reply = Some stored; askers = ns } in
        let e : Envelope = record { to = from; frame = frame } in
        record { book = record book { entries = es; logged = put_logged l book.logged }; signed = []; sent = e ∷ [] } in
        let spelled : spelling (LogReply (log_reply (self_at seat accepts signing) id cell stored)) ≡ frame = law
        (log_reply (self_at seat accepts signing) id cell stored) ∙ sym is in
        ap Ok
        (ap (λ es. told es (asked_by from askers) (spelling (LogReply (log_reply (self_at seat accepts signing) id cell stored))))
        (sym entries)
        ∙ ap
        (λ ns. told (arrived_in book.entries arrives) ns
        (spelling (LogReply (log_reply (self_at seat accepts signing) id cell stored)))) (sym asks)
        ∙ ap (told (arrived_in book.entries arrives) asked.items) spelled)

  pub enter_planned : (from : Party) (t : TransactionValue) (l : LoggedEntry) (view : ℕ) (asked : Vec ℕ Global) (p : Pending) → ElectsEnd
      → stale l.cell.current view ≡ None → exhausted 1 book.pen ≡ None → asked.items ≡ asked_by from l.askers
      → p.words ≡ words_of (election_words (self_at seat accepts signing) l.id l.cell.decision view)
      → fronts_of p ≡ front_for (unsigned_elect (elect_said seat t l.cell.decision view))
      (Replica seat.home.shard (leader_of seat.home.cluster t.time view)) ∷ []
      → told_of (enter_view (self_at seat accepts signing) from book t l view)
      ≡ Ok
      (perform_log signing (begun book)
      (record { arrives = None; id = l.id; cell = entered l.cell view; askers = asked; said = Entered p }))
  unfolding made log
  enter_planned from t l view asked p law raised left asks words fronts =
      let g = signing.gives book.pen.spent p.words in
      let leader = Replica seat.home.shard (leader_of seat.home.cluster t.time view) in
      let word : List ℕ → ElectValue =
      λ w. record {
        transaction = t;
        shard = seat.home.shard;
        replica = seat.index;
        decision = l.cell.decision;
        view = view;
        signature = signing.gives book.pen.spent w;
      } in
      let sent : (w : List ℕ)
      → List Envelope = λ w. let e : EnvelopeValue = record { to = leader; message = Elect (word w) } in framed e ∷ [] in
      let sealed : (let e : EnvelopeValue = record { to = leader; message = Elect (word p.words) } in framed e) ∷ [] ≡ sealed_all g p =
      sends_one (Elect (word p.words)) (unsigned_elect (elect_said seat t l.cell.decision view)) g p leader (law (word p.words)) fronts in
      ap (λ o. told_of (unless (or_else o (exhausted 1 book.pen)) (enter_done (self_at seat accepts signing) from book t l view))) raised
      ∙ ap (λ o. told_of (unless o (enter_done (self_at seat accepts signing) from book t l view))) left
      ∙ ap Ok (ap (λ w. made book.entries (log l.id (entered l.cell view) None (asked_by from l.askers)) (w ∷ []) (sent w)) (sym words)
      ∙ ap (λ ns. made book.entries (log l.id (entered l.cell view) None ns) (p.words ∷ []) (sent p.words)) (sym asks)
      ∙ ap (made book.entries (log l.id (entered l.cell view) None asked.items) (p.words ∷ [])) sealed)

  pub told_planned : (t : TransactionValue) (m : DecideValue) (l : Option LoggedEntry) (id : List ℕ) (cell : LogCell) (askers : List ℕ)
      (arrives : Option TransactionValue) (copied : Vec ℕ Global) (p : Pending) → LogRepliesEnd
      → exhausted 1 book.pen ≡ None → arrived_in book.entries arrives ≡ with_known book.entries t → transactions.id t ≡ id
      → cell_of m.decision m.view ≡ cell → askers_with l ≡ askers
      → copied.items ≡ askers → p.words ≡ words_of (said_words_of seat id cell)
      → fronts_of p ≡ map (front_for (unsigned_log_reply (said_reply seat id cell))) (map Client askers)
      → told_of (unless (exhausted 1 book.pen) (adopt_done (self_at seat accepts signing) book t m l))
      ≡ Ok (perform_log signing (begun book) (record { arrives = arrives; id = id; cell = cell; askers = copied; said = Anew p }))
  unfolding made log
  told_planned t m l id cell askers arrives copied p law left entries named celled asks copy words fronts =
      let g = signing.gives book.pen.spent p.words in
      let sent : List ℕ → LogCell → List ℕ → List ℕ → List Envelope =
      λ id cell ns w. map framed
      (map
      (λ number. reply_to (Client number)
      (log_reply (self_at seat accepts signing) id cell (signing.gives book.pen.spent w))) ns) in
      let told : List ℕ → LogCell → List ℕ → List ℕ → Told =
      λ id cell ns w. made (with_known book.entries t) (log id cell (Some (signing.gives book.pen.spent w)) ns) (w ∷ [])
      (sent id cell ns w) in
      let said : List ℕ → LogCell → List ℕ = λ id cell. words_of (log_words (self_at seat accepts signing) id cell) in
      let sealed : sent id cell askers p.words ≡ sealed_all g p =
      sends (LogReply (log_reply (self_at seat accepts signing) id cell g)) (unsigned_log_reply (said_reply seat id cell)) g p Client askers
      (law (log_reply (self_at seat accepts signing) id cell g)) fronts in
      ap (λ o. told_of (unless o (adopt_done (self_at seat accepts signing) book t m l))) left
      ∙ ap Ok (ap (λ i. told i (cell_of m.decision m.view) (askers_with l) (said i (cell_of m.decision m.view))) named
      ∙ ap (λ c. told id c (askers_with l) (said id c)) celled
      ∙ ap (λ ns. told id cell ns (said id cell)) asks
      ∙ ap (told id cell askers) (sym words)
      ∙ ap (λ es. made es (log id cell (Some g) askers) (p.words ∷ []) (sent id cell askers p.words)) (sym entries)
      ∙ ap (λ ns. made (arrived_in book.entries arrives) (log id cell (Some g) ns) (p.words ∷ []) (sent id cell askers p.words)) (sym copy)
      ∙ ap (made (arrived_in book.entries arrives) (log id cell (Some g) copied.items) (p.words ∷ [])) sealed)

pub says_of_all : (size left : ℕ) (r : Result LogWork Refusal) → IfOk r (λ w. (size left : ℕ) → CanSay size left w.said)
    → IfOk r (λ w. CanSay size left w.said)
says_of_all size left (Ok w) h = h size left
says_of_all size left (Err e) h = h
