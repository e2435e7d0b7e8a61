-- The answer to a first stage is a vote, a wait or nothing new.
use Rattle.std.specs.Option.{option_map_or}
use Rattle.std.proofs.Common.{◌≡◌, ℕ, Bool, cond, List, [], ◌∷◌, ◌++◌, Option, Some, None, refl, sym, ap}
use Rattle.std.proofs.Common.{subst, ◌∙◌, inl, inr}
use Rattle.std.specs.Prelude.{option_map, Result, Ok}
use Rattle.std.proofs.lemmas.Bool.{cases_Bool}
use Rattle.basil_types.specs.declared.party.Party.{Party}
use Rattle.basil_types.specs.declared.party.Decision.{Decision}
use Rattle.basil_types.specs.declared.party.Decision.TheVariants.{Commit, Abort}
use Rattle.basil_types.specs.Transaction.{TransactionValue, id}
use Rattle.basil_types.specs.Words.{SignedWords}
use Rattle.mvtso_check.specs.declared.verdict.Verdict.TheVariants as verdicts
use Rattle.mvtso_check.specs.declared.verdict.Verdict.{Verdict}
use Rattle.mvtso_check.specs.Verdict.{Book, verdict}
use Rattle.txn_table.specs.Entries.{VoteValue, Unvoted, Waiting, Voted, EntryValue, OutcomeValue, asked, asked_vote, voted, decision_of}
use Rattle.replica_core.specs.declared.refusal.Refusal.{Refusal}
use Rattle.replica_core.specs.Replicas.{ReplicaSelf, BookValue, LoggedEntry, Done}
use Rattle.replica_core.specs.Known.{logged_with}
use Rattle.node_steps.specs.Envelopes.{EnvelopeValue}
use Rattle.txn_table.specs.Tables.{entry_with}
use Rattle.replica_core.specs.Signing.{vote_words, signature, exhausted}
use Rattle.replica_core.specs.FirstStage.{vote_value, vote_to, votes, vote_done, wait_done, by_verdict, by_vote, answer_known, first_vote}
use Rattle.replica_core.specs.FirstStage.{first_stage, told_or, unless_ended, answer_st1, tell_outcome}
use Rattle.agreement_laws.specs.Words as laws
use Rattle.agreement_laws.specs.Replicas as acts
use Rattle.agreement_laws.specs.Replicas.{Slot, May}
use Rattle.agreement_laws.specs.Runs.{put_id, Node}
use Rattle.agreement_laws.specs.Certificates.{Signed}
use Rattle.cluster_run.specs.Settings.{Lookup, Finds, basis_of, setting, words_as}
use Rattle.law_joins.specs.Shown.{decision_of as decision_as}
use Rattle.cluster_run.specs.Acting.{cell_in, slot_with, slots, node, Leads, FindsEach}
use Rattle.law_joins.specs.Books.{state_of, IsSound, VerdictsAreSound}
use Rattle.cluster_run.proofs.Finding.{found, entry_found, looked_found, are_texts, ok_is}
use Rattle.cluster_run.proofs.Slots.{ext, slots_made}
use Rattle.cluster_run.proofs.Steps.{words_append, words_none, unless_ok, stays, one_act}

abbrev wait_slot : Slot → Slot
wait_slot t = record t { vote = acts.Waiting }

abbrev vote_slot : Decision → Slot → Slot
vote_slot d t = record t { vote = acts.Cast (decision_as d) }

abbrev pub the_node : List laws.Word → acts.Book → Node
the_node own b = record { own = own; book = b }

-- a book's node by its parts
pub same_node : (own os : List laws.Word) (b c : acts.Book) → own ≡ os → b ≡ c → the_node own b ≡ the_node os c
same_node own os b c e f = λ i. the_node (e i) (f i)

-- somebody waits
abbrev asked_state : acts.VoteState → acts.VoteState
asked_state acts.Unvoted = acts.Waiting
asked_state acts.Waiting = acts.Waiting
asked_state (acts.Cast d) = acts.Cast d

abbrev asked_slot : Slot → Slot
asked_slot t = record t { vote = asked_state t.vote }

vote_asked : (from : Party) (v : VoteValue) → state_of (asked_vote from v) ≡ asked_state (state_of v)
vote_asked from Unvoted = refl
vote_asked from (Waiting askers) = refl
vote_asked from (Voted d signature proof) = refl

slot_asked : (from : Party) (e : EntryValue) (l : Option LoggedEntry) → slot_with (Some (asked from e)) l
    ≡ asked_slot (slot_with (Some e) l)
slot_asked from e l = ap (λ (v : acts.VoteState). record (slot_with (Some e) l) { vote = v }) (vote_asked from e.vote)

-- putting what is there changes nothing
pub put_same : (b : acts.Book) (x : List ℕ) (a : Slot) → b x ≡ a → put_id b x a ≡ b
put_same b x a e = ext _ _ (λ y. elim (cases_Bool (Rattle.std.specs.Str.bytes_eq y x)) [
  | inl i ↦ ap (λ z. cond z a (b y)) i ∙ sym e ∙ ap b (sym (Rattle.cluster_run.proofs.Finding.same_true y x i))
  | inr n ↦ ap (λ z. cond z a (b y)) n
])

-- where the entry of a transaction has neither a vote nor an outcome
pub record IsFresh (es : List EntryValue) (ls : List LoggedEntry) (x : List ℕ) : Type 0 where
  pub vote : (slots es ls x).vote ≡ acts.Unvoted
  pub outcome : (slots es ls x).outcome ≡ None

module _ (faulty : ℕ → ℕ → Bool) (tx : Lookup) (signed : Signed) (aborted : laws.Id → Bool) (me : ReplicaSelf) (own : List SignedWords)
    (book : BookValue) where
  abbrev C : Rattle.agreement_laws.specs.Settings.Setting
  C = setting me.home.cluster faulty tx

  abbrev S : ℕ
  S = me.home.shard

  abbrev G : Node → Node → Type 0
  G p q = Leads C signed aborted S me.index p q

  -- a vote
  pub vote_goes : (from : Party) (t : TransactionValue) (d : Decision) (proof : Option ℕ) →
      May C signed aborted S (slots book.entries book.logged) (id t) (acts.Votes (decision_as d)) →
      G (node own book) (node (own ++ (vote_done me from book t d proof).signed) (vote_done me from book t d proof).book)
  vote_goes from t d proof m =
      one_act C signed aborted S me.index (node own book) (id t) (acts.Votes (decision_as d)) _ m
      (same_node _ _ _ _ (sym (words_append own (vote_words me (id t) d ∷ [])))
      (sym (slots_made (voted d (signature me book.pen (vote_words me (id t) d)) proof) (vote_slot d) (λ e. refl)
      (λ e l. refl) book.entries book.logged t)))

  pub votes_go : (from : Party) (t : TransactionValue) (d : Decision) (proof : Option ℕ) (done : Done) →
      May C signed aborted S (slots book.entries book.logged) (id t) (acts.Votes (decision_as d)) →
      votes me from book t d proof ≡ Ok done → G (node own book) (node (own ++ done.signed) done.book)
  votes_go from t d proof done m h =
      subst (λ (x : Done). G (node own book) (node (own ++ x.signed) x.book))
      (unless_ok (exhausted 1 book.pen) (vote_done me from book t d proof) done h) (vote_goes from t d proof m)

  abbrev N : Node
  N = node own book

  -- nobody else changes
  pub waits_go : (from : Party) (t : TransactionValue) → (slots book.entries book.logged (id t)).vote ≡ acts.Waiting →
      G N (node (own ++ []) (wait_done from book t).book)
  waits_go from t w = stays C signed aborted S me.index N _
      (same_node _ _ _ _ (sym (words_none own))
      (sym (slots_made (asked from) asked_slot (λ e. refl) (slot_asked from) book.entries book.logged t
      ∙ put_same (slots book.entries book.logged) (id t) (asked_slot (slots book.entries book.logged (id t)))
      (ap (λ (v : acts.VoteState). record (slots book.entries book.logged (id t)) { vote = v }) (w ∙ ap asked_state (sym w))))))

  pub wait_goes : (from : Party) (t : TransactionValue) → IsFresh book.entries book.logged (id t) →
      May C signed aborted S (slots book.entries book.logged) (id t) acts.Waits → G N (node (own ++ []) (wait_done from book t).book)
  wait_goes from t f m =
      one_act C signed aborted S me.index N (id t) acts.Waits _ m
      (same_node _ _ _ _ (Rattle.std.proofs.Common.append-nil (words_as own) ∙ sym (words_none own))
      (sym (slots_made (asked from) asked_slot (λ e. refl) (slot_asked from) book.entries book.logged t
      ∙ ap (λ (v : acts.VoteState). put_id (slots book.entries book.logged) (id t)
      (record (slots book.entries book.logged (id t)) { vote = asked_state v })) f.vote)))

  abbrev B : Book
  B = record { entries = book.entries; noted = book.noted }

  sound : VerdictsAreSound → (now : ℕ) (t : TransactionValue) → Finds tx t → FindsEach tx book.entries →
      IsSound (basis_of me.home.cluster faulty tx) me.home now B (λ x. cell_in (logged_with book.logged x)) t
  sound law now t looked all =
      law (basis_of me.home.cluster faulty tx) me.home now B (λ x. cell_in (logged_with book.logged x)) t refl looked
      (are_texts me.home.cluster faulty tx book.entries all)

  -- the vote of the verdict
  verdict_goes : VerdictsAreSound → (now : ℕ) (from : Party) (t : TransactionValue) (v : Verdict) (done : Done) → Finds tx t →
      FindsEach tx book.entries → IsFresh book.entries book.logged (id t) → verdict me.home now B t ≡ v → by_verdict me from book t v
      ≡ Ok done → G N (node (own ++ done.signed) done.book)
  verdict_goes law now from t verdicts.Abort done looked all f e h = votes_go from t Abort None done (f.outcome, inr f.vote) h
  verdict_goes law now from t (verdicts.AbortBy place) done looked all f e h =
      votes_go from t Abort (Some place) done (f.outcome, inr f.vote) h
  verdict_goes law now from t verdicts.Wait done looked all f e h =
      let is : wait_done from book t ≡ done = cc in
      subst (λ (x : Done). G N (node (own ++ x.signed) x.book)) is
      (wait_goes from t f (f.outcome, f.vote, (sound law now t looked all).clear (inr e)))
  verdict_goes law now from t verdicts.Commit done looked all f e h =
      let s = sound law now t looked all in
      votes_go from t Commit None done (f.outcome, s.ready e, inr (f.vote, s.clear (inl e))) h

  pub first_vote_goes : VerdictsAreSound → (now : ℕ) (from : Party) (t : TransactionValue) (done : Done) → Finds tx t →
      FindsEach tx book.entries → IsFresh book.entries book.logged (id t) →
      first_vote me now from book t ≡ Ok done → G N (node (own ++ done.signed) done.book)
  first_vote_goes law now from t done looked all f h =
      verdict_goes law now from t (verdict me.home now B t) done looked all f refl h

  -- ---- a known transaction

  quiet_goes : (sent : List EnvelopeValue) (done : Done) → (the : Result Done Refusal) → the
      ≡ Ok (record { book = book; signed = []; sent = sent }) → the ≡ Ok done → G N (node (own ++ done.signed) done.book)
  quiet_goes sent done the d e =
      subst (λ (x : Done). G N (node (own ++ x.signed) x.book)) (ok_is (record { book = book; signed = []; sent = sent }) done the d e)
      (stays C signed aborted S me.index N _ (same_node _ _ _ _ (sym (words_none own)) refl))

  vote_goes_by : VerdictsAreSound → (now : ℕ) (from : Party) (t : TransactionValue) (v : VoteValue) (done : Done) → Finds tx t →
      FindsEach tx book.entries →
      (slots book.entries book.logged (id t)).vote ≡ state_of v → (slots book.entries book.logged (id t)).outcome ≡ None →
      by_vote me now from book t v ≡ Ok done → G N (node (own ++ done.signed) done.book)
  vote_goes_by law now from t Unvoted done looked all v o h =
      first_vote_goes law now from t done looked all (record { vote = v; outcome = o }) h
  vote_goes_by law now from t (Waiting askers) done looked all v o h =
      let is : wait_done from book t ≡ done = cc in
      subst (λ (x : Done). G N (node (own ++ x.signed) x.book)) is (waits_go from t v)
  vote_goes_by law now from t (Voted d given place) done looked all v o h =
      quiet_goes (vote_to from (vote_value me book.entries (id t) d place given) ∷ []) done
      (by_vote me now from book t (Voted d given place)) refl h

  known_goes : VerdictsAreSound → (now : ℕ) (from : Party) (t : TransactionValue) (o : Option EntryValue) (done : Done) → Finds tx t →
      FindsEach tx book.entries → entry_with book.entries (id t) ≡ o → Rattle.law_joins.specs.Books.outcome_at o ≡ None →
      answer_known me now from book t o ≡ Ok done → G N (node (own ++ done.signed) done.book)
  known_goes law now from t None done looked all e n h =
      first_vote_goes law now from t done looked all (record {
        vote = ap Rattle.law_joins.specs.Books.vote_at e;
        outcome = ap
            Rattle.law_joins.specs.Books.outcome_at e;
      }) h
  known_goes law now from t (Some d) done looked all e n h =
      let at : found (id t) book.entries ≡ Some d = sym (entry_found (id t) book.entries) ∙ e in
      let is : t ≡ d.transaction = sym looked ∙ looked_found tx book.entries (id t) d all at in
      vote_goes_by law now from t d.vote done looked all (ap Rattle.law_joins.specs.Books.vote_at e)
      (ap Rattle.law_joins.specs.Books.outcome_at e ∙ n)
      (ap (λ (u : TransactionValue). by_vote me now from book u d.vote) is ∙ h)

  pub first_stage_goes : VerdictsAreSound → (now : ℕ) (from : Party) (t : TransactionValue) (done : Done) → Finds tx t →
      FindsEach tx book.entries →
      (slots book.entries book.logged (id t)).outcome ≡ None →
      first_stage me now from book t ≡ Ok done → G N (node (own ++ done.signed) done.book)
  first_stage_goes law now from t done looked all n h = known_goes law now from t (entry_with book.entries (id t)) done looked all refl n h

  -- ---- what has an outcome

  ended_by : (from : Party) (x : List ℕ) (d : EntryValue) (o : Option OutcomeValue) (answer : Result Done Refusal) (done : Done) → d.outcome
      ≡ o → (option_map decision_as (decision_of d) ≡ None → answer ≡ Ok done → G N (node (own ++ done.signed) done.book)) →
      option_map_or (λ (o : OutcomeValue). Ok (tell_outcome from book d o)) o answer ≡ Ok done → G N (node (own ++ done.signed) done.book)
  ended_by from x d None answer done e go h =
      go (ap (λ (o : Option OutcomeValue). option_map decision_as (option_map (λ (o : OutcomeValue). o.decision) o)) e) h
  ended_by from x d (Some outcome) answer done e go h =
      quiet_goes (tell_outcome from book d outcome).sent done
      (option_map_or (λ (o : OutcomeValue). Ok (tell_outcome from book d o)) (Some outcome) answer) refl h

  if_ended_by : (from : Party) (x : List ℕ) (o : Option EntryValue) (answer : Result Done Refusal) (done : Done) → entry_with book.entries x
      ≡ o → ((slots book.entries book.logged x).outcome ≡ None → answer ≡ Ok done → G N (node (own ++ done.signed) done.book)) →
      option_map_or (told_or from book answer) o answer ≡ Ok done → G N (node (own ++ done.signed) done.book)
  if_ended_by from x None answer done e go h = go (ap Rattle.law_joins.specs.Books.outcome_at e) h
  if_ended_by from x (Some d) answer done e go h =
      ended_by from x d d.outcome answer done refl (λ n. go (ap Rattle.law_joins.specs.Books.outcome_at e ∙ n)) h

  -- the rest of an answer goes on where there is no outcome
  pub unless_ended_goes : (from : Party) (x : List ℕ) (answer : Result Done Refusal) (done : Done) →
      ((slots book.entries book.logged x).outcome ≡ None → answer ≡ Ok done → G N (node (own ++ done.signed) done.book)) →
      unless_ended from book x answer ≡ Ok done → G N (node (own ++ done.signed) done.book)
  unless_ended_goes from x answer done go h = if_ended_by from x (entry_with book.entries x) answer done refl go h

  pub st1_goes : VerdictsAreSound → (now : ℕ) (from : Party) (t : TransactionValue) (done : Done) → Finds tx t → FindsEach tx book.entries →
      answer_st1 me now from book t ≡ Ok done → G N (node (own ++ done.signed) done.book)
  st1_goes law now from t done looked all h =
      unless_ended_goes from (id t) (first_stage me now from book t) done (λ n k. first_stage_goes law now from t done looked all n k) h
