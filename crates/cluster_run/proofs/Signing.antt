-- What an answer signs has its sizes, by the kind of the message.
use Rattle.cluster_run.proofs.Finding.{ok_is}
use Rattle.cluster_run.proofs.Members.{in_cases}
use Rattle.std.proofs.Common.{◌≡◌, ℕ, ◌<◌, ◌^◌, Bool, true, false, cond, List, [], ◌∷◌, ◌++◌, length, Option, Some, None, refl, ap, subst}
use Rattle.std.proofs.Common.{◌∙◌, inl, inr, arith}
use Rattle.std.specs.Prelude.{Contains, Result, Ok, slice_get}
use Rattle.std.specs.Option.{option_map_or}
use Rattle.std.proofs.lemmas.List.Elements.{Contains-append_cases}
use Rattle.basil_types.specs.Built.{or_else}
use Rattle.basil_types.specs.declared.party.Party.{Party}
use Rattle.basil_types.specs.declared.party.Decision.{Decision}
use Rattle.basil_types.specs.declared.party.Decision.TheVariants.{Commit, Abort}
use Rattle.basil_types.specs.Transaction.{TransactionValue, IsTransaction, id}
use Rattle.basil_types.specs.Words.{SignedWords, AreWords}
use Rattle.decision_log.specs.Cells.{first_cell, cell_of}
use Rattle.fallback_leader.specs.Elections.{ProposalValue, proposal_of}
use Rattle.fallback_views.specs.Views.{raised}
use Rattle.frame_views.specs.Fitting.{FitsMessage, FitsInvoke, FitsRead, bounds_of}
use Rattle.frame_views.specs.Spelling.{certificate_bytes}
use Rattle.frame_views.specs.Values.{MessageValue, CertificateValue, InvokeValue, ElectValue, DecideValue, ReadValue, Read, ReadReply, St1}
use Rattle.frame_views.specs.Values.{Vote, St2, LogReply, Writeback, Recover, Invoke, Elect, Decide}
use Rattle.mvtso_check.specs.declared.verdict.Verdict.{Verdict}
use Rattle.mvtso_check.specs.declared.verdict.Verdict.TheVariants as verdicts
use Rattle.txn_table.specs.Entries.{EntryValue, VoteValue, Unvoted, Waiting, Voted, OutcomeValue, asked, voted, decided}
use Rattle.txn_table.specs.Tables.{id_of, place_of, entry_with}
use Rattle.replica_core.specs.declared.refusal.Refusal.{Refusal}
use Rattle.replica_core.specs.Replicas.{ReplicaSelf, BookValue, LoggedEntry, Done, quiet}
use Rattle.node_steps.specs.Envelopes.{EnvelopeValue}
use Rattle.replica_core.specs.Known.{logged_with, outcome_with, with_known, known_of}
use Rattle.replica_core.specs.Signing.{exhausted, vote_words, signature}
use Rattle.node_steps.specs.Refusing.{unless}
use Rattle.replica_core.specs.Reads.{answer_read, read_done, from_future}
use Rattle.replica_core.specs.FirstStage.{votes, vote_done, wait_done, by_verdict, verdict_of, by_vote, answer_known, first_stage, told_or}
use Rattle.replica_core.specs.FirstStage.{unless_ended, tell_outcome, vote_to, vote_value}
use Rattle.replica_core.specs.SecondStage.{reply_again, reply_anew, reply_by, reply_of, log_or_reply, unsigned, recover_by, logs_here}
use Rattle.replica_core.specs.Writebacks.{release_entry, release_one, release_all, releases, outcome_done, with_outcome, end_unless_ended}
use Rattle.replica_core.specs.Invokes.{invoke_logged, enter_done, stale, reported}
use Rattle.replica_core.specs.Elections.{word_of, kept_after, propose_done, collect_by, collect, not_leader, not_adopted, bad_election}
use Rattle.replica_core.specs.Elections.{adopt_done, adopt_by}
use Rattle.replica_core.specs.Refusals.{refused}
use Rattle.replica_core.specs.Answers.{answer_kind}
use Rattle.cluster_run.specs.Answering.{AllWords, AreNumbers, AnswersSignWords}
use Rattle.cluster_run.proofs.Decides.{length_id}
use Rattle.cluster_run.proofs.Logs.{logged_id}
use Rattle.cluster_run.proofs.Marking.{none_in}
use Rattle.cluster_run.proofs.Sizes.{got_in, Spelled, spelled_known, spelled_at, spelled_changed, Numbered, numbered_put, logged_in}
use Rattle.cluster_run.proofs.Sizes.{read_words_fit, raised_small, replies_small}
use Rattle.cluster_run.proofs.Steps.{unless_ok, then_ok}

one_word : (w : SignedWords) → AreWords w → AllWords (w ∷ [])
one_word w k x i = elim (in_cases x w [] i) [ inl e ↦ subst AreWords e k | inr n ↦ absurd (none_in x n) ]

no_word : AllWords []
no_word x i = absurd (none_in x i)

-- words have their sizes, and so has the book
pub record Sizes (done : Done) : Type 0 where
  words : AllWords done.signed
  entries : Spelled done.book.entries
  logged : Numbered done.book.logged

entry_in : (es : List EntryValue) (x : List ℕ) (e : EntryValue) → entry_with es x ≡ Some e → Contains es e
entry_in es x e h = by (place_of es x) h
  where
    by : (o : Option ℕ) → Rattle.std.specs.Prelude.option_and_then (slice_get es) o ≡ Some e → Contains es e
    by None h = absurd cc
    by (Some p) h = got_in es p e h

module _ (me : ReplicaSelf) (book : BookValue) (all : Spelled book.entries) (numbers : Numbered book.logged) where
  unless_sizes : (o : Option Refusal) (a done : Done) → Sizes a → unless o a ≡ Ok done → Sizes done
  unless_sizes o a done k h = subst Sizes (unless_ok o a done h) k

  ok_sizes : (a done : Done) (the : Result Done Refusal) → Sizes a → the ≡ Ok a → the ≡ Ok done → Sizes done
  ok_sizes a done the k e h = subst Sizes (ok_is a done the e h) k

  quiet_sizes : (sent : List EnvelopeValue) → Sizes (record { book = book; signed = []; sent = sent })
  quiet_sizes sent = record { words = no_word; entries = all; logged = numbers }

  -- ---- the first stage

  wait_sizes : (from : Party) (t : TransactionValue) → IsTransaction t → Sizes (wait_done from book t)
  wait_sizes from t k = record {
    words = no_word;
    entries = spelled_at (asked from) (λ e. refl) (id t) (with_known book.entries t)
        (spelled_known book.entries t k all);
    logged = numbers;
  }

  vote_sizes : (from : Party) (t : TransactionValue) (d : Decision) (proof : Option ℕ) → IsTransaction t →
      Sizes (vote_done me from book t d proof)
  vote_sizes from t d proof k = record {
    words = one_word (vote_words me (id t) d) (length_id t);
    entries =
        spelled_at (voted d (signature me book.pen (vote_words me (id t) d)) proof) (λ e. refl) (id t) (with_known book.entries t)
        (spelled_known book.entries t k all);
    logged = numbers;
  }

  votes_sizes : (from : Party) (t : TransactionValue) (d : Decision) (proof : Option ℕ) (done : Done) → IsTransaction t →
      votes me from book t d proof ≡ Ok done → Sizes done
  votes_sizes from t d proof done k h =
      unless_sizes (exhausted 1 book.pen) (vote_done me from book t d proof) done (vote_sizes from t d proof k) h

  verdict_sizes : (from : Party) (t : TransactionValue) (v : Verdict) (done : Done) → IsTransaction t → by_verdict me from book t v
      ≡ Ok done → Sizes done
  verdict_sizes from t verdicts.Commit done k h = votes_sizes from t Commit None done k h
  verdict_sizes from t verdicts.Abort done k h = votes_sizes from t Abort None done k h
  verdict_sizes from t (verdicts.AbortBy place) done k h = votes_sizes from t Abort (Some place) done k h
  verdict_sizes from t verdicts.Wait done k h =
      ok_sizes (wait_done from book t) done (by_verdict me from book t verdicts.Wait) (wait_sizes from t k) refl h

  by_vote_sizes : (now : ℕ) (from : Party) (t : TransactionValue) (v : VoteValue) (done : Done) → IsTransaction t →
      by_vote me now from book t v ≡ Ok done → Sizes done
  by_vote_sizes now from t Unvoted done k h = verdict_sizes from t (verdict_of me now book t) done k h
  by_vote_sizes now from t (Waiting askers) done k h =
      ok_sizes (wait_done from book t) done (by_vote me now from book t (Waiting askers)) (wait_sizes from t k) refl h
  by_vote_sizes now from t (Voted d given place) done k h =
      ok_sizes _ done (by_vote me now from book t (Voted d given place))
      (quiet_sizes (vote_to from (vote_value me book.entries (id t) d place given) ∷ [])) refl h

  known_sizes : (now : ℕ) (from : Party) (t : TransactionValue) (o : Option EntryValue) (done : Done) → IsTransaction t →
      entry_with book.entries (id t) ≡ o → answer_known me now from book t o ≡ Ok done → Sizes done
  known_sizes now from t None done k e h = verdict_sizes from t (verdict_of me now book t) done k h
  known_sizes now from t (Some d) done k e h = by_vote_sizes now from d.transaction d.vote done (all d (entry_in book.entries (id t) d e)) h

  pub first_sizes : (now : ℕ) (from : Party) (t : TransactionValue) (done : Done) → IsTransaction t → first_stage me now from book t
      ≡ Ok done → Sizes done
  first_sizes now from t done k h = known_sizes now from t (entry_with book.entries (id t)) done k refl h

  ended_sizes : (from : Party) (d : EntryValue) (o : Option OutcomeValue) (answer : Result Done Refusal) (done : Done) →
      (answer ≡ Ok done → Sizes done) → option_map_or (λ (o : OutcomeValue). Ok (tell_outcome from book d o)) o answer ≡ Ok done →
      Sizes done
  ended_sizes from d None answer done go h = go h
  ended_sizes from d (Some outcome) answer done go h =
      ok_sizes (tell_outcome from book d outcome) done
      (option_map_or (λ (o : OutcomeValue). Ok (tell_outcome from book d o)) (Some outcome) answer)
      (quiet_sizes (tell_outcome from book d outcome).sent) refl h

  if_ended_sizes : (from : Party) (o : Option EntryValue) (answer : Result Done Refusal) (done : Done) → (answer ≡ Ok done → Sizes done) →
      option_map_or (told_or from book answer) o answer ≡ Ok done → Sizes done
  if_ended_sizes from None answer done go h = go h
  if_ended_sizes from (Some d) answer done go h = ended_sizes from d d.outcome answer done go h

  pub unless_ended_sizes : (from : Party) (x : List ℕ) (answer : Result Done Refusal) (done : Done) → (answer ≡ Ok done → Sizes done) →
      unless_ended from book x answer ≡ Ok done → Sizes done
  unless_ended_sizes from x answer done go h = if_ended_sizes from (entry_with book.entries x) answer done go h

  -- ---- logs

  again_sizes : (from : Party) (t : TransactionValue) (l : LoggedEntry) (stored : List ℕ) → IsTransaction t → AreNumbers l.cell →
      Sizes (reply_again me from book t l stored)
  again_sizes from t l stored k n = record {
    words = no_word;
    entries = spelled_known book.entries t k all;
    logged = numbered_put _
        book.logged n numbers;
  }

  anew_sizes : (from : Party) (t : TransactionValue) (l : LoggedEntry) → IsTransaction t → length l.id ≡ 32 → AreNumbers l.cell →
      Sizes (reply_anew me from book t l)
  anew_sizes from t l k i n = record {
    words = one_word (Rattle.replica_core.specs.Signing.log_words me l.id l.cell)
        (record { id = i; decided = n.decided; current = n.current });
    entries = spelled_known book.entries t k all;
    logged = numbered_put _ book.logged n numbers;
  }

  reply_sizes : (from : Party) (t : TransactionValue) (l : LoggedEntry) (o : Option (List ℕ)) (done : Done) → IsTransaction t → length l.id
      ≡ 32 → AreNumbers l.cell → reply_by me from book t l o ≡ Ok done → Sizes done
  reply_sizes from t l (Some stored) done k i n h =
      ok_sizes (reply_again me from book t l stored) done (reply_by me from book t l (Some stored)) (again_sizes from t l stored k n) refl h
  reply_sizes from t l None done k i n h =
      unless_sizes (exhausted 1 book.pen) (reply_anew me from book t l) done (anew_sizes from t l k i n) h

  id_size : (t : TransactionValue) (l : LoggedEntry) → logged_with book.logged (id t) ≡ Some l → length l.id ≡ 32
  id_size t l e = ap (λ (x : List ℕ). length x) (logged_id book.logged (id t) l e) ∙ length_id t

  pub log_sizes : (from : Party) (t : TransactionValue) (d : Decision) (o : Option LoggedEntry) (done : Done) → IsTransaction t →
      logged_with book.logged (id t) ≡ o → log_or_reply me from book t d o ≡ Ok done → Sizes done
  log_sizes from t d (Some l) done k e h =
      reply_sizes from t l l.reply done k (id_size t l e) (numbers l (logged_in book.logged (id t) l e)) h
  log_sizes from t d None done k e h =
      reply_sizes from t (unsigned (id t) (first_cell d)) None done k (length_id t)
      (record { decided = omega arith; current = omega arith }) h

  pub recover_sizes : (now : ℕ) (from : Party) (t : TransactionValue) (o : Option LoggedEntry) (done : Done) → IsTransaction t →
      logged_with book.logged (id t) ≡ o → recover_by me now from book t o ≡ Ok done → Sizes done
  recover_sizes now from t None done k e h = first_sizes now from t done k h
  recover_sizes now from t (Some l) done k e h = by (logs_here me (known_of book.entries t)) h
    where
      by : (b : Bool) → cond b (reply_of me from book t l) (first_stage me now from book t) ≡ Ok done → Sizes done
      by true h = reply_sizes from t l l.reply done k (id_size t l e) (numbers l (logged_in book.logged (id t) l e)) h
      by false h = first_sizes now from t done k h

  pub invoke_sizes : (from : Party) (m : InvokeValue) (e : Option EntryValue) (o : Option LoggedEntry) (done : Done) →
      FitsInvoke (bounds_of me.home.cluster) m → logged_with book.logged m.id ≡ o → invoke_logged me from book m e o ≡ Ok done → Sizes done
  invoke_sizes from m None o done f i h = absurd cc
  invoke_sizes from m (Some e) None done f i h = absurd cc
  invoke_sizes from m (Some e) (Some l) done f i h =
      let view = raised me.home.cluster.f (reported m) l.cell.current in
      let was = numbers l (logged_in book.logged m.id l i) in
      let small : view < 2 ^ 64 =
      raised_small me.home.cluster.f (reported m) l.cell.current
      (replies_small (bounds_of me.home.cluster) 0 m.replies f.replies.each) was.current in
      let size : length l.id ≡ 32 = ap (λ (x : List ℕ). length x) (logged_id book.logged m.id l i) ∙ f.id in
      unless_sizes (or_else (stale l.cell.current view) (exhausted 1 book.pen)) (enter_done me from book e.transaction l view) done
      (record {
        words = one_word (Rattle.replica_core.specs.Signing.election_words me l.id l.cell.decision view)
            (record { id = size; view = small });
        entries = all;
        logged = numbered_put _ book.logged (record { decided = was.decided; current = small }) numbers;
      }) h

  pub collect_sizes : (t : TransactionValue) (m : ElectValue) (o : Option ProposalValue) (done : Done) → m.view < 2 ^ 64 →
      collect_by me book t m o ≡ Ok done → Sizes done
  collect_sizes t m None done v h =
      ok_sizes (quiet (kept_after me book t m)) done (collect_by me book t m None)
      (record { words = no_word; entries = all; logged = numbers }) refl h
  collect_sizes t m (Some p) done v h =
      unless_sizes (exhausted 1 book.pen) (propose_done me book t m p) done
      (record {
        words = one_word (Rattle.replica_core.specs.Signing.proposal_words me (id t) p.decision m.view)
            (record { id = length_id t; view = v });
        entries = all;
        logged = numbers;
      }) h

  pub adopt_sizes : (t : TransactionValue) (m : DecideValue) (l : Option LoggedEntry) (done : Done) → IsTransaction t → m.view < 2 ^ 64 →
      adopt_by me book t m l ≡ Ok done → Sizes done
  adopt_sizes t m l done k v h =
      unless_sizes (or_else (not_leader me t m.view m.replica)
      (or_else (not_adopted l m.view) (or_else (bad_election me m) (exhausted 1 book.pen)))) (adopt_done me book t m l) done
      (record {
        words = one_word (Rattle.replica_core.specs.Signing.log_words me (id t) (cell_of m.decision m.view))
            (record { id = length_id t; decided = v; current = v });
        entries = spelled_known book.entries t k all;
        logged = numbered_put _ book.logged (record { decided = v; current = v }) numbers;
      }) h

  pub read_sizes : (now : ℕ) (from : Party) (m : ReadValue) (done : Done) → FitsRead m → answer_read me now from book m ≡ Ok done →
      Sizes done
  read_sizes now from m done f h =
      unless_sizes (or_else (from_future me now m) (exhausted 1 book.pen)) (read_done me from book m) done
      (record {
        words = one_word (Rattle.replica_core.specs.Reads.read_words me book.entries m)
            (read_words_fit me book.entries m all f);
        entries = all;
        logged = numbers;
      }) h

  text_spelled : (t : TransactionValue) → IsTransaction t → IsTransaction (known_of book.entries t)
  text_spelled t k = by (entry_with book.entries (id t)) refl
    where
      by : (o : Option EntryValue) → entry_with book.entries (id t) ≡ o →
          IsTransaction (option_map_or (λ (e : EntryValue). e.transaction) o t)
      by None e = k
      by (Some d) e = all d (entry_in book.entries (id t) d e)

-- ---- releases

module _ (me : ReplicaSelf) where
  more_words : (ws : List SignedWords) (w : SignedWords) → AllWords ws → AreWords w → AllWords (ws ++ w ∷ [])
  more_words ws w a k x i = elim (Contains-append_cases ws (w ∷ []) x i) [ inl j ↦ a x j | inr j ↦ one_word w k x j ]

  release_sizes : (r : ℕ × Decision) (done : Done) (o : Option EntryValue) → Sizes done →
      Sizes (option_map_or (release_entry me r.0 r.1 done) o done)
  release_sizes r done None k = k
  release_sizes r done (Some e) k = record {
    words = more_words done.signed (vote_words me (id_of e) r.1) k.words (length_id e.transaction);
    entries =
        spelled_changed (voted r.1 (signature me done.book.pen (vote_words me (id_of e) r.1)) None)
        (λ e. refl) r.0 done.book.entries k.entries;
    logged = k.logged;
  }

  all_sizes : (rs : List (ℕ × Decision)) (done : Done) → Sizes done → Sizes (release_all me rs done)
  all_sizes [] done k = k
  all_sizes (r ∷ rs) done k = all_sizes rs (release_one me r done) (release_sizes r done (slice_get done.book.entries r.0) k)

  end_sizes : (book : BookValue) (t : TransactionValue) (c : CertificateValue) (o : Option OutcomeValue) (done : Done) →
      Spelled book.entries → Numbered book.logged → IsTransaction t → end_unless_ended me book t c o ≡ Ok done → Sizes done
  end_sizes book t c (Some outcome) done all numbers k h =
      subst Sizes (ok_is (quiet book) done (end_unless_ended me book t c (Some outcome)) refl h)
      (record { words = no_word; entries = all; logged = numbers })
  end_sizes book t c None done all numbers k h =
      let d = Rattle.certificates.specs.Refusals.decision_of c.body in
      let rs = releases me book.entries (place_of book.entries (id t)) d in
      subst Sizes (unless_ok (exhausted (length rs) book.pen) (outcome_done me book t d c rs) done h)
      (all_sizes rs (quiet (with_outcome book t d c))
      (record {
        words = no_word;
        entries = spelled_at (decided d (certificate_bytes c)) (λ e. refl) (id t) (with_known book.entries t)
            (spelled_known book.entries t k all);
        logged = numbers;
      }))

  sizes_by : (now : ℕ) (from : Party) (book : BookValue) (m : MessageValue) (done : Done) → FitsMessage (bounds_of me.home.cluster) m →
      Spelled book.entries → Numbered book.logged → answer_kind me now from book m ≡ Ok done → Sizes done
  sizes_by now from book (Read m) done f all numbers h = read_sizes me book all numbers now from m done f h
  sizes_by now from book (ReadReply m) done f all numbers h = absurd cc
  sizes_by now from book (St1 m) done f all numbers h =
      unless_ended_sizes me book all numbers from (id m.transaction) (first_stage me now from book m.transaction) done
      (λ k. first_sizes me book all numbers now from m.transaction done f.transaction k) h
  sizes_by now from book (Vote m) done f all numbers h = absurd cc
  sizes_by now from book (St2 m) done f all numbers h =
      unless_ended_sizes me book all numbers from (id m.transaction)
      (log_or_reply me from book m.transaction m.decision (logged_with book.logged (id m.transaction))) done
      (λ k. log_sizes me book all numbers from m.transaction m.decision
      (logged_with book.logged (id m.transaction)) done f.transaction refl k) h
  sizes_by now from book (LogReply m) done f all numbers h = absurd cc
  sizes_by now from book (Writeback m) done f all numbers h =
      end_sizes book m.transaction m.certificate (outcome_with book.entries (id m.transaction)) done all numbers f.transaction h
  sizes_by now from book (Recover m) done f all numbers h =
      unless_ended_sizes me book all numbers from (id m.transaction)
      (recover_by me now from book m.transaction (logged_with book.logged (id m.transaction))) done
      (λ k. recover_sizes me book all numbers now from m.transaction (logged_with book.logged (id m.transaction)) done f.transaction refl k)
      h
  sizes_by now from book (Invoke m) done f all numbers h =
      unless_ended_sizes me book all numbers from m.id
      (invoke_logged me from book m (entry_with book.entries m.id) (logged_with book.logged m.id)) done
      (λ k. invoke_sizes me book all numbers from m (entry_with book.entries m.id) (logged_with book.logged m.id) done f refl k) h
  sizes_by now from book (Elect m) done f all numbers h =
      let t = known_of book.entries m.transaction in
      collect_sizes me book all numbers t m (proposal_of me.home.cluster.f book.kept (id t) m.view (word_of m)) done f.view
      (then_ok (not_leader me t m.view me.index) (collect me book t m) done h)
  sizes_by now from book (Decide m) done f all numbers h =
      adopt_sizes me book all numbers (known_of book.entries m.transaction) m (logged_with book.logged (id m.transaction)) done
      (text_spelled me book all numbers m.transaction f.transaction) f.view h

pub answers_sign_words : AnswersSignWords
answers_sign_words me now from book m done f sized h =
    let k = sizes_by me now from book m done f sized.entries sized.logged
    (then_ok (refused me m) (answer_kind me now from book m) done h) in
    (k.words, record { entries = k.entries; logged = k.logged })
