-- Each answer leaves the book in order, by the kind of the message.
use Rattle.fallback_leader.specs.Laws.{WordsStayApart}
use Rattle.cluster_run.proofs.Finding.{ok_is}
use Rattle.cluster_run.proofs.Members.{in_head}
use Rattle.std.proofs.Common.{◌≡◌, ℕ, ◌==◌, List, [], Option, Some, None, refl, sym, ap, subst, ◌∙◌}
use Rattle.std.specs.Prelude.{Ok, Contains}
use Rattle.std.proofs.lemmas.Bool.{and_parts, eqb-true}
use Rattle.basil_types.specs.Built.{or_else}
use Rattle.basil_types.specs.declared.party.Party.{Party}
use Rattle.basil_types.specs.Setting.{Setting}
use Rattle.basil_types.specs.Transaction.{TransactionValue, id}
use Rattle.basil_types.specs.Words.{ElectionWords}
use Rattle.fallback_leader.specs.Elections.{AreApart, ProposalValue, proposal_of}
use Rattle.fallback_leader.specs.declared.words.KeptWord.{KeptWord}
use Rattle.frame_views.specs.Signed.{signed_in, word_signed}
use Rattle.frame_views.specs.Values.{MessageValue, ElectValue, DecideValue, ReadValue, Read, ReadReply, St1, Vote, St2, LogReply, Writeback}
use Rattle.frame_views.specs.Values.{Recover, Invoke, Elect, Decide}
use Rattle.replica_core.specs.Replicas.{ReplicaSelf, BookValue, LoggedEntry, Done, quiet}
use Rattle.replica_core.specs.Known.{logged_with, outcome_with, known_of}
use Rattle.txn_table.specs.Tables.{entry_with}
use Rattle.replica_core.specs.Signing.{exhausted}
use Rattle.replica_core.specs.Reads.{answer_read, read_done, from_future}
use Rattle.replica_core.specs.FirstStage.{first_stage}
use Rattle.replica_core.specs.SecondStage.{logs_here, log_or_reply, recover_by}
use Rattle.replica_core.specs.Invokes.{invoke_logged}
use Rattle.replica_core.specs.Elections.{word_of, kept_after, propose_done, collect_by, collect, answer_elect}
use Rattle.replica_core.specs.Elections.{not_leader, not_adopted, bad_election, adopt_done, adopt_by}
use Rattle.replica_core.specs.Refusals.{refused}
use Rattle.replica_core.specs.Answers.{answer_kind, answer_message}
use Rattle.agreement_laws.specs.Words as laws
use Rattle.agreement_laws.specs.Certificates as can
use Rattle.cluster_run.specs.Settings.{Finds}
use Rattle.law_joins.specs.Shown.{decision_of as decision_as}
use Rattle.cluster_run.specs.Answering.{Moment, setting_of, IsBacked, IsSeen, IsInOrder, AnswersKeepOrder}
use Rattle.cluster_run.proofs.Decides.{each_accepted, length_id, text_looked}
use Rattle.cluster_run.proofs.Elects.{kept_too}
use Rattle.cluster_run.proofs.Joined.{Passed, passed}
use Rattle.cluster_run.proofs.Orders.{Fine, Keeps, first_stage_keeps, unless_ended_keeps, log_keeps, recover_keeps, invoke_keeps, end_keeps}
use Rattle.cluster_run.proofs.Orders.{fine_known}
use Rattle.cluster_run.proofs.Steps.{unless_ok, then_ok, then_none}

-- a collection of words: the entries are as before, and one word may have come
pub record Collects (me : ReplicaSelf) (book : BookValue) (t : TransactionValue) (m : ElectValue) (new : BookValue) : Type 0 where
  pub entries : new.entries ≡ book.entries
  pub kept : new.kept ≡ (kept_after me book t m).kept

pub collects : (me : ReplicaSelf) (book : BookValue) (t : TransactionValue) (m : ElectValue) (o : Option ProposalValue) (done : Done) →
    collect_by me book t m o ≡ Ok done → Collects me book t m done.book
collects me book t m None done h =
    subst (λ (d : Done). Collects me book t m d.book) (ok_is (quiet (kept_after me book t m)) done (collect_by me book t m None) refl h)
    (record { entries = refl; kept = refl })
collects me book t m (Some p) done h =
    subst (λ (d : Done). Collects me book t m d.book) (unless_ok (exhausted 1 book.pen) (propose_done me book t m p) done h)
    (record { entries = refl; kept = refl })

module _ (collected_apart : WordsStayApart) where
  module _ (v : Moment) (me : ReplicaSelf) (now : ℕ) (from : Party) (book : BookValue) (done : Done) where
    abbrev W : Moment
    W = record v { cluster = me.home.cluster }

    module _ (backed : IsBacked W) (order : IsInOrder W me.home.shard book) where
      abbrev fine : Fine W.tx book.entries
      fine = record { looked = order.looked; distinct = order.distinct }

      abbrev To : Type 0
      To = IsInOrder W me.home.shard done.book

      -- the collected words are as before
      kept_order : Keeps W.tx book done.book → To
      kept_order k = record {
        looked = k.fine.looked;
        distinct = k.fine.distinct;
        apart = subst AreApart (sym k.kept) order.apart;
        kept = λ w i. order.kept w (subst (λ (ks : List KeptWord). Contains ks w) k.kept i);
      }

      read_keeps : (m : ReadValue) → answer_read me now from book m ≡ Ok done → Keeps W.tx book done.book
      read_keeps m h =
          subst (λ (d : Done). Keeps W.tx book d.book) (unless_ok (or_else (from_future me now m) (exhausted 1 book.pen))
          (read_done me from book m) done h) (record { fine = fine; kept = refl })

      adopt_keeps : (t : TransactionValue) (m : DecideValue) (l : Option LoggedEntry) → Finds W.tx t → adopt_by me book t m l ≡ Ok done →
          Keeps W.tx book done.book
      adopt_keeps t m l looked h =
          subst (λ (d : Done). Keeps W.tx book d.book)
          (unless_ok (or_else (not_leader me t m.view m.replica)
          (or_else (not_adopted l m.view) (or_else (bad_election me m) (exhausted 1 book.pen)))) (adopt_done me book t m l) done h)
          (record { fine = fine_known W.tx book.entries t looked fine; kept = refl })

      -- a word that was seen is in order
      elect_order : (m : ElectValue) → IsSeen W me.accepts (Elect m) → Passed me (Elect m) → answer_elect me book m ≡ Ok done → To
      elect_order m seen p h =
          let t = m.transaction in
          let looked = seen.looked t (in_head t []) in
          let both = and_parts (logs_here me t) (m.shard == me.home.shard) p.own in
          let g = word_signed m.shard (id t) m.view (record { replica = m.replica; decision = m.decision; signature = m.signature }) in
          let said =
          backed m.shard m.replica (ElectionWords (record {
            shard = m.shard;
            replica = m.replica;
            id = id t;
            decision = m.decision;
            view = m.view;
          })) m.signature (laws.Election m.shard m.replica (id t) (decision_as m.decision) m.view)
          (seen.said g (in_head g []) (each_accepted me.accepts (signed_in (Elect m)) p.signatures g (in_head g [])))
          (record { id = length_id t; view = seen.fits.view }) refl in
          let here : m.shard ≡ me.home.shard = eqb-true m.shard me.home.shard both.1 in
          let text : known_of book.entries t ≡ t = text_looked W.tx book.entries t looked order.looked in
          let i : collect me book t m ≡ Ok done =
          sym (ap (λ (u : TransactionValue). collect me book u m) text)
          ∙ then_ok (not_leader me (known_of book.entries t) m.view me.index) (collect me book (known_of book.entries t) m) done h in
          let c = collects me book t m (proposal_of me.home.cluster.f book.kept (id t) m.view (word_of m)) done i in
          let all = kept_too W.faulty W.tx W.signed W.aborted me [] book m t (λ k j. let q = order.kept k j in (q.below, q.said)) (
            seen.fits.replica,
            subst (λ (s : ℕ). can.Says (setting_of W) W.signed s m.replica
                (laws.Election s m.replica (id t) (decision_as m.decision) m.view)) here said,
          ) in
          record {
            looked = subst (Rattle.cluster_run.specs.Acting.FindsEach W.tx) (sym c.entries) order.looked;
            distinct =
                subst (λ es. Rattle.std.specs.List.IsDistinct Rattle.std.specs.Str.bytes_eq (Rattle.txn_table.specs.Tables.ids_of es))
                (sym c.entries) order.distinct;
            apart = subst AreApart (sym c.kept) (collected_apart me.home.cluster.f book.kept (id t) m.view (word_of m) order.apart);
            kept = λ k j. let q = all k (subst (λ (ks : List KeptWord). Contains ks k) c.kept j) in record { below = q.0; said = q.1 };
          }

      by_kind : (m : MessageValue) → IsSeen W me.accepts m → Passed me m → answer_kind me now from book m ≡ Ok done → To
      by_kind (Read m) seen p h = kept_order (read_keeps m h)
      by_kind (ReadReply m) seen p h = absurd cc
      by_kind (St1 m) seen p h =
          let t = m.transaction in
          kept_order (unless_ended_keeps W.tx me book fine from (id t) (first_stage me now from book t) done
          (λ k. first_stage_keeps W.tx me book fine now from t done (seen.looked t (in_head t [])) k) h)
      by_kind (Vote m) seen p h = absurd cc
      by_kind (St2 m) seen p h =
          let t = m.transaction in
          kept_order (unless_ended_keeps W.tx me book fine from (id t)
          (log_or_reply me from book t m.decision (logged_with book.logged (id t))) done
          (λ k. log_keeps W.tx me book fine from t m.decision (logged_with book.logged (id t)) done (seen.looked t (in_head t [])) k) h)
      by_kind (LogReply m) seen p h = absurd cc
      by_kind (Writeback m) seen p h =
          kept_order (end_keeps W.tx me book m.transaction m.certificate (outcome_with book.entries (id m.transaction)) done fine
          (seen.looked m.transaction (in_head m.transaction _)) h)
      by_kind (Recover m) seen p h =
          let t = m.transaction in
          kept_order (unless_ended_keeps W.tx me book fine from (id t) (recover_by me now from book t (logged_with book.logged (id t))) done
          (λ k. recover_keeps W.tx me book fine now from t (logged_with book.logged (id t)) done (seen.looked t (in_head t [])) k) h)
      by_kind (Invoke m) seen p h =
          kept_order (unless_ended_keeps W.tx me book fine from m.id
          (invoke_logged me from book m (entry_with book.entries m.id) (logged_with book.logged m.id)) done
          (λ k. invoke_keeps W.tx me book fine from m (entry_with book.entries m.id) (logged_with book.logged m.id) done k) h)
      by_kind (Elect m) seen p h = elect_order m seen p h
      by_kind (Decide m) seen p h =
          let t = m.transaction in
          let looked = seen.looked t (in_head t []) in
          let text : known_of book.entries t ≡ t = text_looked W.tx book.entries t looked order.looked in
          kept_order (adopt_keeps (known_of book.entries t) m (logged_with book.logged (id t)) (subst (Finds W.tx) (sym text) looked) h)

      order_after : (m : MessageValue) → IsSeen W me.accepts m → answer_message me now from book m ≡ Ok done → To
      order_after m seen h =
          by_kind m seen (passed me m (then_none (refused me m) (answer_kind me now from book m) done h))
          (then_ok (refused me m) (answer_kind me now from book m) done h)

  abbrev At : Setting → Moment → ReplicaSelf → ℕ → Party → BookValue → MessageValue → Done → Type 0
  At c v me now from book m done =
      IsBacked (record v { cluster = c }) → IsSeen (record v { cluster = c }) me.accepts m →
      IsInOrder (record v { cluster = c }) me.home.shard book →
      answer_message me now from book m ≡ Ok done → IsInOrder (record v { cluster = c }) me.home.shard done.book

  pub answers_keep_order : AnswersKeepOrder
  answers_keep_order v me now from book m done ok same backed seen order h =
      subst (λ (c : Setting). At c v me now from book m done) same
      (λ backed seen order h. order_after v me now from book done backed order m seen h) backed seen order h
