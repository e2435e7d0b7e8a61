-- Each accepted answer lets only what conflicts with nothing stand, and leaves what has an outcome.
use Rattle.std.proofs.Common.{◌≡◌, ℕ, Bool, true, false, List, [], ◌∷◌}
use Rattle.std.proofs.Common.{Option, Some, None, refl, sym, ap, subst, ◌∙◌, inl, inr}
use Rattle.std.specs.Prelude.{Result, Ok, Err, slice_get, option_map, if◌then◌else◌, not, ⊤}
use Rattle.std.specs.Option.{option_map_or, option_and_then}
use Rattle.std.proofs.lemmas.Option.{same_Some}
use Rattle.basil_types.specs.declared.party.Decision.{Decision}
use Rattle.basil_types.specs.declared.party.Decision.TheVariants.{Commit, Abort}
use Rattle.basil_types.specs.declared.party.Party.{Party}
use Rattle.basil_types.specs.Transaction.{TransactionValue, id}
use Rattle.certificates.specs.Refusals.{decision_of}
use Rattle.decision_log.specs.Cells.{first_cell}
use Rattle.fallback_leader.specs.Elections.{ProposalValue, proposal_of}
use Rattle.frame_views.specs.declared.fault.BadFrame as faults
use Rattle.frame_views.specs.Fitting.{bounds_of}
use Rattle.frame_views.specs.Frames.{frame_in}
use Rattle.frame_views.specs.Values.{MessageValue, WritebackValue, InvokeValue, ElectValue}
use Rattle.frame_views.specs.Values.{Read, ReadReply, St1, Vote, St2, LogReply, Writeback, Recover, Invoke, Elect, Decide}
use Rattle.mvtso_check.specs.declared.verdict.Verdict.{Verdict}
use Rattle.mvtso_check.specs.declared.verdict.Verdict.TheVariants as verdicts
use Rattle.mvtso_check.specs.Book.{waits_or_commits}
use Rattle.mvtso_check.specs.Laws.{IsLetStand, NothingConflicts}
use Rattle.node_steps.specs.Refusing.{unless, unless_refused}
use Rattle.txn_meta.specs.Conflicts.{ShardConflicts}
use Rattle.txn_table.specs.Entries.{EntryValue, OutcomeValue, VoteValue, Unvoted, Waiting, Voted, asked, asked_vote, voted}
use Rattle.txn_table.specs.Entries as entries
use Rattle.txn_table.specs.Laws.{IdsTellPlaces, ReleasedAscend}
use Rattle.txn_table.specs.Released.{is_aborted}
use Rattle.txn_table.specs.Tables.{entry_with, id_of, place_of}
use Rattle.replica_core.specs.Answers as answers
use Rattle.replica_core.specs.declared.refusal.Refusal.{Refusal}
use Rattle.replica_core.specs.Elections as elections
use Rattle.replica_core.specs.FirstStage as first
use Rattle.replica_core.specs.Invokes as invokes
use Rattle.replica_core.specs.Known.{changed_at, known_of, logged_with, outcome_with, with_known}
use Rattle.replica_core.specs.Reads as reads
use Rattle.replica_core.specs.Refusals.{refused}
use Rattle.replica_core.specs.Replicas.{ReplicaSelf, BookValue, Done, LoggedEntry, empty_book}
use Rattle.replica_core.specs.SecondStage as second
use Rattle.replica_core.specs.Signing.{exhausted, signature, vote_words}
use Rattle.replica_core.specs.Writebacks as ends
use Rattle.replica_laws.specs.Steps.{Handed, step, left_by, book_after}
use Rattle.conflict_laws.specs.Conflicts.{OneIsAborted, EndedNeverVote}
use Rattle.conflict_laws.proofs.Standing.{IsFree, one_of_two, with_first}
use Rattle.conflict_laws.proofs.Following.{Follows, follows_at, follows_known, follows_same, follows_then}
use Rattle.conflict_laws.proofs.Following.{known_here, known_or_new}
use Rattle.conflict_laws.proofs.Releasing.{end_follows, known_end}

module _ (tables : IdsTellPlaces) (ascend : ReleasedAscend) (judged : NothingConflicts) (laws : ShardConflicts)
    (me : ReplicaSelf) (now : ℕ) (from : Party) (book : BookValue) where
  -- what an accepted answer leaves follows the book before
  abbrev pub Accepted : Result Done Refusal → Type 0
  Accepted (Ok done) = Follows me.home book.entries done.book.entries
  Accepted (Err refusal) = ⊤

  unless_follows : (o : Option Refusal) (done : Done) → Follows me.home book.entries done.book.entries → Accepted (unless o done)
  unless_follows None done h = h
  unless_follows (Some r) done h = tt

  refused_follows : (o : Option Refusal) (a : Result Done Refusal) → Accepted a → Accepted (unless_refused o a)
  refused_follows None a h = h
  refused_follows (Some r) a h = tt

  same : Follows me.home book.entries book.entries
  same = follows_same me.home book.entries

  known : (t : TransactionValue) → Follows me.home book.entries (with_known book.entries t)
  known t = follows_known book.entries t laws me.home

  -- ---- first stages

  -- what is known of the transaction is its text, and no outcome
  abbrev IsOpen : TransactionValue → Type 0
  IsOpen t = (e : EntryValue) → entry_with book.entries (id t) ≡ Some e → (e.transaction ≡ t) × (e.outcome ≡ None)

  open_here : (t : TransactionValue) → IsOpen t → (place : ℕ) (x : EntryValue) →
      place_of (with_known book.entries t) (id t) ≡ Some place → slice_get (with_known book.entries t) place ≡ Some x →
      (x.transaction ≡ t) × (x.outcome ≡ None)
  open_here t unended =
      known_or_new tables book.entries t (λ (e : EntryValue). (e.transaction ≡ t) × (e.outcome ≡ None)) (refl, refl) unended

  -- nothing conflicts with what a verdict lets stand
  free_by : (t : TransactionValue) → IsLetStand me.home now (record { entries = book.entries; noted = book.noted }) t →
      IsFree me.home book.entries t
  free_by t h = judged.each me.home now (record { entries = book.entries; noted = book.noted }) t h

  let_stand : (f : EntryValue → EntryValue) (t : TransactionValue) → ((e : EntryValue) → (f e).transaction ≡ e.transaction) →
      IsOpen t → IsFree me.home book.entries t → Follows me.home book.entries (changed_at f (id t) (with_known book.entries t))
  let_stand f t keeps unended free =
      follows_at laws me.home f t book.entries keeps (λ place x h i.
      let here = open_here t unended place x h i in
      record {
        unended = here.1;
        stands = λ s. inr (subst (IsFree me.home book.entries) (sym here.0) free);
      })

  abbrev given : TransactionValue → Decision → List ℕ
  given t d = signature me book.pen (vote_words me (id t) d)

  abort_follows : (t : TransactionValue) (proof : Option ℕ) → IsOpen t → Accepted (first.votes me from book t Abort proof)
  abort_follows t proof unended =
      unless_follows (exhausted 1 book.pen) (first.vote_done me from book t Abort proof)
      (follows_at laws me.home (voted Abort (given t Abort) proof) t book.entries (λ e. refl) (λ place x h i. record {
        unended = (open_here t unended place x h i).1;
        stands = λ s. absurd cc;
      }))

  verdict_follows : (t : TransactionValue) (v : Verdict) → first.verdict_of me now book t ≡ v → IsOpen t →
      Accepted (first.by_verdict me from book t v)
  verdict_follows t verdicts.Commit is unended =
      unless_follows (exhausted 1 book.pen) (first.vote_done me from book t Commit None)
      (let_stand (voted Commit (given t Commit) None) t (λ e. refl) unended (free_by t (inl is)))
  verdict_follows t verdicts.Abort is unended = abort_follows t None unended
  verdict_follows t (verdicts.AbortBy place) is unended = abort_follows t (Some place) unended
  verdict_follows t verdicts.Wait is unended = let_stand (asked from) t (λ e. refl) unended (free_by t (inr is))

  -- somebody else waits
  waits_again : (t : TransactionValue) (e : EntryValue) (askers : List Party) → entry_with book.entries (id t) ≡ Some e →
      e.vote ≡ Waiting askers → e.outcome ≡ None → Follows me.home book.entries (first.wait_done from book t).book.entries
  waits_again t e askers there waits none =
      follows_at laws me.home (asked from) t book.entries (λ e. refl) (λ place x h i.
      let is = known_here book.entries t e there place x h i in
      record {
        unended = ap (λ (e : EntryValue). e.outcome) is ∙ none;
        stands = λ s. inl (with_first (waits_or_commits (asked_vote from x.vote)) (waits_or_commits x.vote)
            (not (is_aborted (entries.decision_of x))) s
            (ap (λ (e : EntryValue). waits_or_commits e.vote) is ∙ ap waits_or_commits waits));
      })

  vote_follows : (t : TransactionValue) (e : EntryValue) (v : VoteValue) → e.vote ≡ v → entry_with book.entries (id t) ≡ Some e →
      id e.transaction ≡ id t → e.outcome ≡ None → Accepted (first.by_vote me now from book e.transaction v)
  vote_follows t e v h there named none = by v h
    where
      here : entry_with book.entries (id e.transaction) ≡ Some e
      here = ap (entry_with book.entries) named ∙ there

      by : (v : VoteValue) → e.vote ≡ v → Accepted (first.by_vote me now from book e.transaction v)
      by Unvoted h =
          verdict_follows e.transaction (first.verdict_of me now book e.transaction) refl (λ x i.
          let is : x ≡ e = same_Some _ _ (sym i ∙ here) in
          (ap (λ (e : EntryValue). e.transaction) is, ap (λ (e : EntryValue). e.outcome) is ∙ none))
      by (Waiting askers) h = waits_again e.transaction e askers here h none
      by (Voted d s p) h = same

  -- the entry of an id has that id
  named_so : (x : List ℕ) (e : EntryValue) → entry_with book.entries x ≡ Some e → id_of e ≡ x
  named_so x e h = by (place_of book.entries x) refl h
    where
      by : (o : Option ℕ) → place_of book.entries x ≡ o → option_and_then (slice_get book.entries) o ≡ Some e → id_of e ≡ x
      by None there h = absurd cc
      by (Some place) there h = same_Some _ _ (sym (ap (option_map id_of) h) ∙ tables.found book.entries x place there)

  -- what is known of this id has no outcome
  abbrev HasNoOutcome : List ℕ → Type 0
  HasNoOutcome x = (e : EntryValue) → entry_with book.entries x ≡ Some e → e.outcome ≡ None

  first_stage_follows : (t : TransactionValue) → HasNoOutcome (id t) → Accepted (first.first_stage me now from book t)
  first_stage_follows t none = by (entry_with book.entries (id t)) refl
    where
      by : (o : Option EntryValue) → entry_with book.entries (id t) ≡ o → Accepted (first.answer_known me now from book t o)
      by None there = verdict_follows t (first.verdict_of me now book t) refl (λ e h. absurd cc)
      by (Some e) there = vote_follows t e e.vote refl there (named_so (id t) e there) (none e there)

  ended_follows : (x : List ℕ) (a : Result Done Refusal) → (HasNoOutcome x → Accepted a) → Accepted (first.unless_ended from book x a)
  ended_follows x a h = by (entry_with book.entries x) refl
    where
      told : (e : EntryValue) (o : Option OutcomeValue) → e.outcome ≡ o → entry_with book.entries x ≡ Some e →
          Accepted (option_map_or (λ outcome. Ok (first.tell_outcome from book e outcome)) o a)
      told e None none there =
          h (λ y i. ap (λ (e : EntryValue). e.outcome) (same_Some _ _ (sym i ∙ there)) ∙ none)
      told e (Some o) is there = same

      by : (o : Option EntryValue) → entry_with book.entries x ≡ o → Accepted (option_map_or (first.told_or from book a) o a)
      by None there = h (λ e i. absurd cc)
      by (Some e) there = told e e.outcome refl there

  -- ---- what is logged

  reply_follows : (t : TransactionValue) (l : LoggedEntry) → Accepted (second.reply_of me from book t l)
  reply_follows t l = by l.reply
    where
      by : (o : Option (List ℕ)) → Accepted (second.reply_by me from book t l o)
      by (Some stored) = known t
      by None = unless_follows (exhausted 1 book.pen) (second.reply_anew me from book t l) (known t)

  log_follows : (t : TransactionValue) (d : Decision) (o : Option LoggedEntry) → Accepted (second.log_or_reply me from book t d o)
  log_follows t d (Some l) = reply_follows t l
  log_follows t d None = reply_follows t (second.unsigned (id t) (first_cell d))

  recover_follows : (t : TransactionValue) (o : Option LoggedEntry) → HasNoOutcome (id t) →
      Accepted (second.recover_by me now from book t o)
  recover_follows t None none = first_stage_follows t none
  recover_follows t (Some l) none = by (second.logs_here me (known_of book.entries t))
    where
      by : (b : Bool) → Accepted (if b then second.reply_of me from book t l else first.first_stage me now from book t)
      by true = reply_follows t l
      by false = first_stage_follows t none

  invoke_follows : (m : InvokeValue) (e : Option EntryValue) (l : Option LoggedEntry) → Accepted (invokes.invoke_logged me from book m e l)
  invoke_follows m (Some e) (Some l) =
      unless_follows _ (invokes.enter_done me from book e.transaction l (invokes.raised_view me m l)) same
  invoke_follows m (Some e) None = tt
  invoke_follows m None l = tt

  collect_follows : (t : TransactionValue) (m : ElectValue) (o : Option ProposalValue) → Accepted (elections.collect_by me book t m o)
  collect_follows t m None = same
  collect_follows t m (Some p) = unless_follows (exhausted 1 book.pen) (elections.propose_done me book t m p) same

  -- ---- outcomes

  writeback_follows : (m : WritebackValue) → Accepted (ends.answer_writeback me book m)
  writeback_follows m = by (outcome_with book.entries (id m.transaction)) refl
    where
      ends_with : (d : Decision) (o : Option ℕ) → place_of book.entries (id m.transaction) ≡ o →
          outcome_with book.entries (id m.transaction) ≡ None →
          Accepted (ends.end_with me book m.transaction d m.certificate (ends.releases me book.entries o d))
      ends_with d None there none =
          unless_follows _ (ends.outcome_done me book m.transaction d m.certificate [])
          (end_follows laws me tables book m.transaction d m.certificate none [] tt)
      ends_with d (Some place) there none =
          let vs = ends.releases me book.entries (Some place) d in
          unless_follows _ (ends.outcome_done me book m.transaction d m.certificate vs)
          (end_follows laws me tables book m.transaction d m.certificate none vs
          (known_end laws me ascend book m.transaction d m.certificate place there))

      by : (o : Option OutcomeValue) → outcome_with book.entries (id m.transaction) ≡ o →
          Accepted (ends.end_unless_ended me book m.transaction m.certificate o)
      by (Some o) there = same
      by None there = ends_with (decision_of m.certificate.body) (place_of book.entries (id m.transaction)) refl there

  -- ---- every kind

  kind_follows : (m : MessageValue) → Accepted (answers.answer_kind me now from book m)
  kind_follows (Read m) = unless_follows _ (reads.read_done me from book m) same
  kind_follows (ReadReply m) = tt
  kind_follows (St1 m) = ended_follows (id m.transaction) _ (first_stage_follows m.transaction)
  kind_follows (Vote m) = tt
  kind_follows (St2 m) =
      ended_follows (id m.transaction) _
      (λ none. log_follows m.transaction m.decision (logged_with book.logged (id m.transaction)))
  kind_follows (LogReply m) = tt
  kind_follows (Writeback m) = writeback_follows m
  kind_follows (Recover m) =
      ended_follows (id m.transaction) _ (recover_follows m.transaction (logged_with book.logged (id m.transaction)))
  kind_follows (Invoke m) =
      ended_follows m.id _
      (λ none. invoke_follows m (entry_with book.entries m.id) (logged_with book.logged m.id))
  kind_follows (Elect m) =
      let t = known_of book.entries m.transaction in
      refused_follows (elections.not_leader me t m.view me.index) (elections.collect me book t m)
      (collect_follows t m (proposal_of me.home.cluster.f book.kept (id t) m.view (elections.word_of m)))
  kind_follows (Decide m) =
      let t = known_of book.entries m.transaction in
      unless_follows _ (elections.adopt_done me book t m (logged_with book.logged (id m.transaction))) (known t)

  frame_follows : (r : Result MessageValue faults.BadFrame) → Accepted (answers.answer_read_frame me now from book r)
  frame_follows (Ok m) = refused_follows (refused me m) (answers.answer_kind me now from book m) (kind_follows m)
  frame_follows (Err fault) = tt

  answer_follows : (frame : List ℕ) → Accepted (answers.answer me now from book frame)
  answer_follows frame = frame_follows (frame_in (bounds_of me.home.cluster) frame)

  left_follows : (a : Result Done Refusal) → Accepted a → Follows me.home book.entries (left_by book a).book.entries
  left_follows (Ok done) h = h
  left_follows (Err refusal) h = same

  pub frame_left : (frame : List ℕ) → Follows me.home book.entries (left_by book (answers.answer me now from book frame)).book.entries
  frame_left frame = left_follows (answers.answer me now from book frame) (answer_follows frame)

-- ---- lists of steps

module _ (tables : IdsTellPlaces) (ascend : ReleasedAscend) (judged : NothingConflicts) (laws : ShardConflicts) where
  all_follow : (me : ReplicaSelf) (book : BookValue) (hs : List Handed) →
      Follows me.home book.entries (book_after me book hs).entries
  all_follow me book [] = follows_same me.home book.entries
  all_follow me book (h ∷ hs) =
      follows_then me.home book.entries (step me book h).book.entries _
      (frame_left tables ascend judged laws me h.now h.from book h.frame)
      (all_follow me (step me book h).book hs)

  pub one_aborted : OneIsAborted
  one_aborted me pen hs p q e f =
      one_of_two me.home (book_after me (empty_book pen) hs).entries
      ((all_follow me (empty_book pen) hs).apart (λ p q e f h. absurd cc)) p q e f

  pub ended_stay : EndedNeverVote
  ended_stay me book hs place e o = (all_follow me book hs).ended place e o
