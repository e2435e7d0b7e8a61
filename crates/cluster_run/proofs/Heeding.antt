-- What an entry of a book has behind it: where somebody waits for its vote or has it, its client's signature and its good form;
-- where it is committed, a certificate. Each answer keeps this.
use Rattle.cluster_run.proofs.Members.{in_head}
use Rattle.std.proofs.Common.{◌≡◌, ℕ, zero, suc, ◌+◌, Bool, true, false, cond, ◌&&◌, List, [], ◌∷◌, ◌++◌, Option, Some, None, refl, sym, ap}
use Rattle.std.proofs.Common.{subst, ◌∙◌, inl, inr, arith}
use Rattle.std.specs.Prelude.{Contains, Result, Ok, slice_get, slice_set, is_some, is_none, option_map, length, filter_map}
use Rattle.std.specs.List.{enumerate_from}
use Rattle.std.specs.Option.{option_map_or}
use Rattle.std.specs.Str.{bytes_eq}
use Rattle.std.proofs.lemmas.Bool.{cases_eq, and_parts}
use Rattle.basil_types.specs.Built.{or_else}
use Rattle.basil_types.specs.declared.party.Party.{Party}
use Rattle.basil_types.specs.declared.party.Decision.{Decision}
use Rattle.basil_types.specs.declared.party.Decision.TheVariants.{Commit, Abort}
use Rattle.basil_types.specs.Transaction.{TransactionValue, id}
use Rattle.certificates.specs.Accepted.{accepts}
use Rattle.certificates.specs.Refusals as certs
use Rattle.certificates.specs.Refusals.{refusal}
use Rattle.frame_views.specs.Signed.{client_signed, signed_in}
use Rattle.frame_views.specs.Spelling.{certificate_bytes}
use Rattle.frame_views.specs.Values.{MessageValue, CertificateValue, WritebackValue, InvokeValue, ElectValue, DecideValue, ReadValue, Read}
use Rattle.frame_views.specs.Values.{ReadReply, St1, Vote, St2, LogReply, Writeback, Recover, Invoke, Elect, Decide}
use Rattle.mvtso_check.specs.declared.verdict.Verdict.{Verdict}
use Rattle.mvtso_check.specs.declared.verdict.Verdict.TheVariants as verdicts
use Rattle.txn_meta.specs.Form.{form_fault}
use Rattle.txn_table.specs.declared.released.Supposed.{Supposed}
use Rattle.txn_table.specs.declared.released.Home.{Home}
use Rattle.txn_table.specs.Released.{released, released_vote, outcome_at, vote_after, dependencies}
use Rattle.txn_table.specs.Entries.{EntryValue, VoteValue, Unvoted, Waiting, Voted, OutcomeValue, is_waiting, decision_of, arrived, asked}
use Rattle.txn_table.specs.Entries.{voted, decided}
use Rattle.txn_table.specs.Tables.{id_of, place_of, changed, entry_with}
use Rattle.replica_core.specs.declared.refusal.Refusal.{Refusal}
use Rattle.replica_core.specs.declared.refusal.Refusal.TheVariants.{BadTransaction, BadCertificate}
use Rattle.replica_core.specs.Replicas.{ReplicaSelf, BookValue, LoggedEntry, Done, quiet}
use Rattle.replica_core.specs.Known.{changed_at, logged_with, outcome_with, with_known, known_of}
use Rattle.replica_core.specs.Signing.{exhausted}
use Rattle.node_steps.specs.Refusing.{unless}
use Rattle.replica_core.specs.FirstStage.{votes, vote_done, wait_done, by_verdict, verdict_of, by_vote, answer_known, first_stage, told_or}
use Rattle.replica_core.specs.FirstStage.{unless_ended, tell_outcome}
use Rattle.replica_core.specs.SecondStage.{reply_again, reply_anew, reply_by, reply_of, log_or_reply, unsigned, recover_by, logs_here}
use Rattle.replica_core.specs.Writebacks.{release_entry, release_one, release_all, releases, outcome_done, with_outcome, end_unless_ended}
use Rattle.replica_core.specs.Invokes.{invoke_logged, enter_done}
use Rattle.replica_core.specs.Reads.{answer_read, read_done, from_future}
use Rattle.replica_core.specs.Elections.{word_of, collect, answer_elect, not_leader, not_adopted, bad_election, adopt_done, adopt_by}
use Rattle.replica_core.specs.Refusals.{refused, subject}
use Rattle.replica_core.specs.Answers.{answer_kind, answer_message}
use Rattle.agreement_laws.specs.Words as laws
use Rattle.agreement_laws.specs.Replicas as acts
use Rattle.law_joins.specs.Books.{state_of}
use Rattle.law_joins.specs.Books.{vote_at}
use Rattle.law_joins.specs.Books.{outcome_at as outcome_in}
use Rattle.law_joins.specs.Shown.{decision_of as decision_as}
use Rattle.cluster_run.proofs.Decides.{each_accepted}
use Rattle.cluster_run.proofs.Finding.{same_true, altered, changed_altered, found, entry_found, mapped_none, ok_is}
use Rattle.cluster_run.proofs.Joined.{Passed, passed}
use Rattle.cluster_run.proofs.Placing.{got_same, got_other}
use Rattle.cluster_run.proofs.Steps.{unless_ok, then_ok, then_none}
use Rattle.cluster_run.proofs.Writes.{mapped}

abbrev pub is_unvoted : VoteValue → Bool
is_unvoted Unvoted = true
is_unvoted (Waiting askers) = false
is_unvoted (Voted d signature proof) = false

-- by what is asked for, and ended, of an id
pub record IsHeeded (Asked Ended : List ℕ → Type 0) (e : EntryValue) : Type 0 where
  pub asked : is_unvoted e.vote ≡ false → Asked (id_of e)
  pub ended : decision_of e ≡ Some Commit → Ended (id_of e)

abbrev pub AreHeeded : (Asked Ended : List ℕ → Type 0) → List EntryValue → Type 0
AreHeeded Asked Ended [] = Unit {0}
AreHeeded Asked Ended (e ∷ es) = IsHeeded Asked Ended e × AreHeeded Asked Ended es

pub heeded_more : (A B C D : List ℕ → Type 0) → ((x : List ℕ) → A x → C x) → ((x : List ℕ) → B x → D x) → (es : List EntryValue) →
    AreHeeded A B es → AreHeeded C D es
heeded_more A B C D f g [] h = tt
heeded_more A B C D f g (e ∷ es) h =
    (record { asked = λ i. f (id_of e) ((h.0).asked i); ended = λ i. g (id_of e) ((h.0).ended i) }, heeded_more A B C D f g es h.1)

-- an entry's id stays where it stands
record HasId (es : List EntryValue) (p : ℕ) (x : List ℕ) : Type 0 where
  entry : EntryValue
  stands : slice_get es p ≡ Some entry
  named : id_of entry ≡ x

pub found_named : (x : List ℕ) (es : List EntryValue) (e : EntryValue) → found x es ≡ Some e → id_of e ≡ x
found_named x [] e h = absurd cc
found_named x (d ∷ es) e h = by (bytes_eq x (id_of d)) refl h (found_named x es e)
  where
    by : (b : Bool) → bytes_eq x (id_of d) ≡ b → cond b (Some d) (found x es) ≡ Some e → (found x es ≡ Some e → id_of e ≡ x) → id_of e ≡ x
    by true i k f = let is : d ≡ e = cc in sym (same_true x (id_of e) (ap (λ (z : EntryValue). bytes_eq x (id_of z)) (sym is) ∙ i))
    by false i k f = f k

module _ (Asked Ended : List ℕ → Type 0) where
  abbrev H : EntryValue → Type 0
  H e = IsHeeded Asked Ended e

  abbrev Hs : List EntryValue → Type 0
  Hs es = AreHeeded Asked Ended es

  pub heeded_got : (es : List EntryValue) (p : ℕ) (e : EntryValue) → slice_get es p ≡ Some e → Hs es → H e
  heeded_got [] p e h a = absurd cc
  heeded_got (d ∷ es) zero e h a = let is : d ≡ e = cc in subst H is a.0
  heeded_got (d ∷ es) (suc p) e h a = heeded_got es p e h a.1

  found_heeded : (x : List ℕ) (es : List EntryValue) (e : EntryValue) → found x es ≡ Some e → Hs es → H e
  found_heeded x [] e h a = absurd cc
  found_heeded x (d ∷ es) e h a = by (bytes_eq x (id_of d)) h (λ k. found_heeded x es e k a.1)
    where
      by : (b : Bool) → cond b (Some d) (found x es) ≡ Some e → (found x es ≡ Some e → H e) → H e
      by true k f = let is : d ≡ e = cc in subst H is a.0
      by false k f = f k

  pub outcome_ended : (es : List EntryValue) (y : List ℕ) → Hs es → outcome_in (entry_with es y) ≡ Some laws.Commit → Ended y
  outcome_ended es y a h = by (found y es) refl (ap outcome_in (sym (entry_found y es)) ∙ h)
    where
      is_commit : (o : Option Decision) → option_map decision_as o ≡ Some laws.Commit → o ≡ Some Commit
      is_commit None h = absurd cc
      is_commit (Some Commit) h = refl
      is_commit (Some Abort) h = absurd (let q : laws.Abort ≡ laws.Commit = cc in cc)

      by : (o : Option EntryValue) → found y es ≡ o → outcome_in o ≡ Some laws.Commit → Ended y
      by None e k = absurd cc
      by (Some d) e k = subst Ended (found_named y es d e) ((found_heeded y es d e a).ended (is_commit (decision_of d) k))

  pub vote_asked : (es : List EntryValue) (x : List ℕ) (d : laws.Decision) → Hs es → vote_at (entry_with es x) ≡ acts.Cast d → Asked x
  vote_asked es x d a h = by (found x es) refl (ap vote_at (sym (entry_found x es)) ∙ h)
    where
      is_cast : (v : VoteValue) → state_of v ≡ acts.Cast d → is_unvoted v ≡ false
      is_cast Unvoted h = absurd cc
      is_cast (Waiting askers) h = refl
      is_cast (Voted e signature proof) h = refl

      by : (o : Option EntryValue) → found x es ≡ o → vote_at o ≡ acts.Cast d → Asked x
      by None e k = absurd cc
      by (Some z) e k = subst Asked (found_named x es z e) ((found_heeded x es z e a).asked (is_cast z.vote k))

  heeded_set : (es : List EntryValue) (p : ℕ) (x : EntryValue) → H x → Hs es → Hs (slice_set es p x)
  heeded_set [] p x h a = tt
  heeded_set (d ∷ es) zero x h a = (h, a.1)
  heeded_set (d ∷ es) (suc p) x h a = (a.0, heeded_set es p x h a.1)

  heeded_arrived : (t : TransactionValue) → H (arrived t)
  heeded_arrived t = record { asked = λ i. absurd cc; ended = λ i. absurd cc }

  heeded_push : (es : List EntryValue) (t : TransactionValue) → Hs es → Hs (es ++ arrived t ∷ [])
  heeded_push [] t a = (heeded_arrived t, tt)
  heeded_push (e ∷ es) t a = (a.0, heeded_push es t a.1)

  heeded_known : (es : List EntryValue) (t : TransactionValue) → Hs es → Hs (with_known es t)
  heeded_known es t a = by (is_some (place_of es (id t)))
    where
      by : (b : Bool) → Hs (cond b es (es ++ arrived t ∷ []))
      by true = a
      by false = heeded_push es t a

  heeded_altered : (f : EntryValue → EntryValue) (x : List ℕ) (es : List EntryValue) → ((e : EntryValue) → id_of e ≡ x → H e → H (f e)) →
      Hs es → Hs (altered f x es)
  heeded_altered f x [] g a = tt
  heeded_altered f x (e ∷ es) g a = by (bytes_eq x (id_of e)) refl (heeded_altered f x es g a.1)
    where
      by : (b : Bool) → bytes_eq x (id_of e) ≡ b → Hs (altered f x es) → Hs (cond b (f e ∷ es) (e ∷ altered f x es))
      by true i rec = (g e (sym (same_true x (id_of e) i)) a.0, a.1)
      by false i rec = (a.0, rec)

  heeded_at : (f : EntryValue → EntryValue) (x : List ℕ) (es : List EntryValue) → ((e : EntryValue) → id_of e ≡ x → H e → H (f e)) → Hs es →
      Hs (changed_at f x es)
  heeded_at f x es g a = subst Hs (sym (changed_altered f x es)) (heeded_altered f x es g a)

  module _ (me : ReplicaSelf) (book : BookValue) (heeded : Hs book.entries) where
    abbrev K : Done → Type 0
    K done = Hs done.book.entries

    unless_heeds : (o : Option Refusal) (a done : Done) → K a → unless o a ≡ Ok done → K done
    unless_heeds o a done k h = subst K (unless_ok o a done h) k

    ok_heeds : (a done : Done) (the : Result Done Refusal) → K a → the ≡ Ok a → the ≡ Ok done → K done
    ok_heeds a done the k e h = subst K (ok_is a done the e h) k

    known_heeds : (done : Done) (t : TransactionValue) → done.book.entries ≡ with_known book.entries t → K done
    known_heeds done t e = subst Hs (sym e) (heeded_known book.entries t heeded)

    wait_heeds : (from : Party) (t : TransactionValue) → Asked (id t) → K (wait_done from book t)
    wait_heeds from t q =
        heeded_at (asked from) (id t) (with_known book.entries t) (λ e i h. record { asked = λ _. subst Asked (sym i) q; ended = h.ended })
        (heeded_known book.entries t heeded)

    votes_heed : (from : Party) (t : TransactionValue) (d : Decision) (proof : Option ℕ) (done : Done) → Asked (id t) →
        votes me from book t d proof ≡ Ok done → K done
    votes_heed from t d proof done q h =
        unless_heeds (exhausted 1 book.pen) (vote_done me from book t d proof) done
        (heeded_at (voted d (Rattle.replica_core.specs.Signing.signature me book.pen
        (Rattle.replica_core.specs.Signing.vote_words me (id t) d)) proof) (id t) (with_known book.entries t)
        (λ e i h. record { asked = λ _. subst Asked (sym i) q; ended = h.ended }) (heeded_known book.entries t heeded)) h

    verdict_heeds : (from : Party) (t : TransactionValue) (v : Verdict) (done : Done) → Asked (id t) → by_verdict me from book t v
        ≡ Ok done → K done
    verdict_heeds from t verdicts.Commit done q h = votes_heed from t Commit None done q h
    verdict_heeds from t verdicts.Abort done q h = votes_heed from t Abort None done q h
    verdict_heeds from t (verdicts.AbortBy place) done q h = votes_heed from t Abort (Some place) done q h
    verdict_heeds from t verdicts.Wait done q h =
        ok_heeds (wait_done from book t) done (by_verdict me from book t verdicts.Wait) (wait_heeds from t q) refl h

    by_vote_heeds : (now : ℕ) (from : Party) (t : TransactionValue) (v : VoteValue) (done : Done) → Asked (id t) →
        by_vote me now from book t v ≡ Ok done → K done
    by_vote_heeds now from t Unvoted done q h = verdict_heeds from t (verdict_of me now book t) done q h
    by_vote_heeds now from t (Waiting askers) done q h =
        ok_heeds (wait_done from book t) done (by_vote me now from book t (Waiting askers)) (wait_heeds from t q) refl h
    by_vote_heeds now from t (Voted d given place) done q h =
        ok_heeds _ done (by_vote me now from book t (Voted d given place)) heeded refl h

    known_answer_heeds : (now : ℕ) (from : Party) (t : TransactionValue) (o : Option EntryValue) (done : Done) → Asked (id t) →
        entry_with book.entries (id t) ≡ o → answer_known me now from book t o ≡ Ok done → K done
    known_answer_heeds now from t None done q e h = verdict_heeds from t (verdict_of me now book t) done q h
    known_answer_heeds now from t (Some d) done q e h =
        by_vote_heeds now from d.transaction d.vote done
        (subst Asked (sym (found_named (id t) book.entries d (sym (entry_found (id t) book.entries) ∙ e))) q) h

    first_heeds : (now : ℕ) (from : Party) (t : TransactionValue) (done : Done) → Asked (id t) → first_stage me now from book t ≡ Ok done →
        K done
    first_heeds now from t done q h = known_answer_heeds now from t (entry_with book.entries (id t)) done q refl h

    ended_heeds : (from : Party) (d : EntryValue) (o : Option OutcomeValue) (answer : Result Done Refusal) (done : Done) →
        (answer ≡ Ok done → K done) → option_map_or (λ (o : OutcomeValue). Ok (tell_outcome from book d o)) o answer ≡ Ok done → K done
    ended_heeds from d None answer done go h = go h
    ended_heeds from d (Some outcome) answer done go h =
        ok_heeds (tell_outcome from book d outcome) done
        (option_map_or (λ (o : OutcomeValue). Ok (tell_outcome from book d o)) (Some outcome) answer) heeded refl h

    if_ended_heeds : (from : Party) (o : Option EntryValue) (answer : Result Done Refusal) (done : Done) → (answer ≡ Ok done → K done) →
        option_map_or (told_or from book answer) o answer ≡ Ok done → K done
    if_ended_heeds from None answer done go h = go h
    if_ended_heeds from (Some d) answer done go h = ended_heeds from d d.outcome answer done go h

    unless_ended_heeds : (from : Party) (x : List ℕ) (answer : Result Done Refusal) (done : Done) → (answer ≡ Ok done → K done) →
        unless_ended from book x answer ≡ Ok done → K done
    unless_ended_heeds from x answer done go h = if_ended_heeds from (entry_with book.entries x) answer done go h

    reply_heeds : (from : Party) (t : TransactionValue) (l : LoggedEntry) (o : Option (List ℕ)) (done : Done) → reply_by me from book t l o
        ≡ Ok done → K done
    reply_heeds from t l (Some stored) done h =
        ok_heeds (reply_again me from book t l stored) done (reply_by me from book t l (Some stored))
        (known_heeds (reply_again me from book t l stored) t refl) refl h
    reply_heeds from t l None done h =
        unless_heeds (exhausted 1 book.pen) (reply_anew me from book t l) done (known_heeds (reply_anew me from book t l) t refl) h

    log_heeds : (from : Party) (t : TransactionValue) (d : Decision) (o : Option LoggedEntry) (done : Done) →
        log_or_reply me from book t d o ≡ Ok done → K done
    log_heeds from t d (Some l) done h = reply_heeds from t l l.reply done h
    log_heeds from t d None done h = reply_heeds from t (unsigned (id t) (Rattle.decision_log.specs.Cells.first_cell d)) None done h

    recover_heeds : (now : ℕ) (from : Party) (t : TransactionValue) (o : Option LoggedEntry) (done : Done) → Asked (id t) →
        recover_by me now from book t o ≡ Ok done → K done
    recover_heeds now from t None done q h = first_heeds now from t done q h
    recover_heeds now from t (Some l) done q h = by (logs_here me (known_of book.entries t)) h
      where
        by : (b : Bool) → cond b (reply_of me from book t l) (first_stage me now from book t) ≡ Ok done → K done
        by true h = reply_heeds from t l l.reply done h
        by false h = first_heeds now from t done q h

    invoke_heeds : (from : Party) (m : InvokeValue) (e : Option EntryValue) (l : Option LoggedEntry) (done : Done) →
        invoke_logged me from book m e l ≡ Ok done → K done
    invoke_heeds from m None l done h = absurd cc
    invoke_heeds from m (Some e) None done h = absurd cc
    invoke_heeds from m (Some e) (Some l) done h =
        let view =
        Rattle.fallback_views.specs.Views.raised me.home.cluster.f (Rattle.replica_core.specs.Invokes.reported m) l.cell.current in
        unless_heeds (or_else (Rattle.replica_core.specs.Invokes.stale l.cell.current view) (exhausted 1 book.pen))
        (enter_done me from book e.transaction l view) done heeded h

    read_heeds : (now : ℕ) (from : Party) (m : ReadValue) (done : Done) → answer_read me now from book m ≡ Ok done → K done
    read_heeds now from m done h =
        unless_heeds (or_else (from_future me now m) (exhausted 1 book.pen)) (read_done me from book m) done heeded h

    adopt_heeds : (t : TransactionValue) (m : DecideValue) (l : Option LoggedEntry) (done : Done) → adopt_by me book t m l ≡ Ok done →
        K done
    adopt_heeds t m l done h =
        unless_heeds (or_else (not_leader me t m.view m.replica)
        (or_else (not_adopted l m.view) (or_else (bad_election me m) (exhausted 1 book.pen)))) (adopt_done me book t m l) done
        (heeded_known book.entries t heeded) h

    elect_heeds : (m : ElectValue) (done : Done) → answer_elect me book m ≡ Ok done → K done
    elect_heeds m done h =
        let t = known_of book.entries m.transaction in
        let i : collect me book t m ≡ Ok done = then_ok (not_leader me t m.view me.index) (collect me book t m) done h in
        subst Hs (sym (Rattle.cluster_run.proofs.Ordered.collects me book t m
        (Rattle.fallback_leader.specs.Elections.proposal_of me.home.cluster.f book.kept (id t) m.view (word_of m)) done i).entries)
        heeded

  -- ---- writebacks

  -- what is released was asked for
  record IsAskedAt (es : List EntryValue) (p : ℕ) : Type 0 where
    entry : EntryValue
    stands : slice_get es p ≡ Some entry
    asked : Asked (id_of entry)

  abbrev AreAskedAt : List EntryValue → List (ℕ × Decision) → Type 0
  AreAskedAt es [] = Unit {0}
  AreAskedAt es (r ∷ rs) = IsAskedAt es r.0 × AreAskedAt es rs

  abbrev Stay : List EntryValue → List EntryValue → Type 0
  Stay es fs = (p : ℕ) (e : EntryValue) → slice_get es p ≡ Some e → HasId fs p (id_of e)

  asked_stay : (es fs : List EntryValue) → Stay es fs → (rs : List (ℕ × Decision)) → AreAskedAt es rs → AreAskedAt fs rs
  asked_stay es fs f [] a = tt
  asked_stay es fs f (r ∷ rs) a =
      let s = f r.0 (a.0).entry (a.0).stands in
      (record { entry = s.entry; stands = s.stands; asked = subst Asked (sym s.named) (a.0).asked }, asked_stay es fs f rs a.1)

  stay_then : (es fs gs : List EntryValue) → Stay es fs → Stay fs gs → Stay es gs
  stay_then es fs gs f g p e h =
      let s = f p e h in let t = g p s.entry s.stands in record { entry = t.entry; stands = t.stands; named = t.named ∙ s.named }

  stay_push : (es : List EntryValue) (x : EntryValue) → Stay es (es ++ x ∷ [])
  stay_push [] x p e h = absurd cc
  stay_push (y ∷ ys) x zero e h = record { entry = e; stands = h; named = refl }
  stay_push (y ∷ ys) x (suc p) e h = let s = stay_push ys x p e h in record { entry = s.entry; stands = s.stands; named = s.named }

  stay_known : (es : List EntryValue) (t : TransactionValue) → Stay es (with_known es t)
  stay_known es t = by (is_some (place_of es (id t)))
    where
      by : (b : Bool) → Stay es (cond b es (es ++ arrived t ∷ []))
      by true = λ p e h. record { entry = e; stands = h; named = refl }
      by false = stay_push es (arrived t)

  stay_set : (es : List EntryValue) (p : ℕ) (d x : EntryValue) → slice_get es p ≡ Some d → id_of x ≡ id_of d → Stay es (slice_set es p x)
  stay_set es p d x at same q e h = elim (cases_eq q p) [
    | inl i ↦
        let is : d ≡ e = (let k : Some d ≡ Some e = sym at ∙ sym (ap (slice_get es) i) ∙ h in cc) in
        record {
          entry = x;
          stands = ap (slice_get (slice_set es p x)) i ∙ got_same es p d x at;
          named = same
              ∙ ap (λ (z : EntryValue). id_of z) is;
        }
    | inr n ↦ record { entry = e; stands = got_other es p q x n ∙ h; named = refl }
  ]

  stay_altered : (f : EntryValue → EntryValue) (keeps : (e : EntryValue) → (f e).transaction ≡ e.transaction) (x : List ℕ)
      (es : List EntryValue) → Stay es (altered f x es)
  stay_altered f keeps x [] p e h = absurd cc
  stay_altered f keeps x (d ∷ es) p e h = by (bytes_eq x (id_of d)) p h (stay_altered f keeps x es)
    where
      by : (b : Bool) (p : ℕ) → slice_get (d ∷ es) p ≡ Some e → Stay es (altered f x es) →
          HasId (cond b (f d ∷ es) (d ∷ altered f x es)) p (id_of e)
      by true zero h rec =
          let is : d ≡ e =
          cc in record {
            entry = f d;
            stands = refl;
            named = ap (λ (t : TransactionValue). id t) (keeps d)
                ∙ ap (λ (z : EntryValue). id_of z) is;
          }
      by true (suc p) h rec = record { entry = e; stands = h; named = refl }
      by false zero h rec = record { entry = e; stands = h; named = refl }
      by false (suc p) h rec = let s = rec p e h in record { entry = s.entry; stands = s.stands; named = s.named }

  module _ (home : Home) (s : Supposed) (es : List EntryValue) where
    abbrev F : ℕ × EntryValue → Option (ℕ × Decision)
    F x = option_map (λ vote. (x.0, vote)) (released_vote home s es x.0 x.1)

    waited : (v : VoteValue) → is_waiting v ≡ true → is_unvoted v ≡ false
    waited Unvoted h = absurd cc
    waited (Waiting askers) h = refl
    waited (Voted d signature proof) h = absurd cc

    asked_by : (k : ℕ) (e : EntryValue) (d : Decision) → slice_get es k ≡ Some e → H e → released_vote home s es k e ≡ Some d →
        IsAskedAt es k
    asked_by k e d got he h = by (is_waiting e.vote && is_none (outcome_at s es k)) refl h
      where
        by : (b : Bool) → (is_waiting e.vote && is_none (outcome_at s es k)) ≡ b →
            cond b (vote_after s es (dependencies home e.transaction)) None ≡ Some d → IsAskedAt es k
        by true f h = record {
          entry = e;
          stands = got;
          asked = he.asked
              (waited e.vote (and_parts (is_waiting e.vote) (is_none (outcome_at s es k)) f).0);
        }
        by false f h = absurd cc

    asked_from : (k : ℕ) (rest : List EntryValue) → Hs rest → ((i : ℕ) → slice_get rest i ≡ slice_get es (k + i)) →
        AreAskedAt es (filter_map F (enumerate_from k rest))
    asked_from k [] hs h = tt
    asked_from k (e ∷ rest) hs h =
        let e2 : k + 0 ≡ k = omega arith in
        by (released_vote home s es k e) refl (asked_from (k + 1) rest hs.1
        (λ i. let e3 : k + suc i ≡ (k + 1) + i = omega arith in h (suc i) ∙ ap (slice_get es) e3))
        (sym (ap (slice_get es) e2) ∙ sym (h 0))
      where
        by : (o : Option Decision) → released_vote home s es k e ≡ o → AreAskedAt es (filter_map F (enumerate_from (k + 1) rest)) →
            slice_get es k ≡ Some e → AreAskedAt es (filter_map F ((k, e) ∷ enumerate_from (k + 1) rest))
        by None f a got =
            subst (AreAskedAt es) (sym (mapped F (k, e) (enumerate_from (k + 1) rest) None (ap (option_map (λ vote. (k, vote))) f))) a
        by (Some d) f a got =
            subst (AreAskedAt es) (sym (mapped F (k, e) (enumerate_from (k + 1) rest) (Some (k, d))
            (ap (option_map (λ vote. (k, vote))) f))) (asked_by k e d got hs.0 f, a)

    all_asked : Hs es → AreAskedAt es (released home s es)
    all_asked hs = asked_from 0 es hs (λ i. let e : i ≡ 0 + i = omega arith in ap (slice_get es) e)

  module _ (me : ReplicaSelf) where
    released_asked : (es : List EntryValue) (o : Option ℕ) (d : Decision) → Hs es → AreAskedAt es (releases me es o d)
    released_asked es None d hs = tt
    released_asked es (Some place) d hs = all_asked me.home (record { place = place; outcome = d }) es hs

    -- one release
    release_heeds : (r : ℕ × Decision) (done : Done) (o : Option EntryValue) → slice_get done.book.entries r.0 ≡ o →
        IsAskedAt done.book.entries r.0 → Hs done.book.entries → Hs (option_map_or (release_entry me r.0 r.1 done) o done).book.entries
        × Stay done.book.entries (option_map_or (release_entry me r.0 r.1 done) o done).book.entries
    release_heeds r done None at a hs = (hs, λ p e h. record { entry = e; stands = h; named = refl })
    release_heeds r done (Some e) at a hs =
        let es = done.book.entries in
        let f : EntryValue → EntryValue =
        voted r.1 (Rattle.replica_core.specs.Signing.signature me done.book.pen
        (Rattle.replica_core.specs.Signing.vote_words me (id_of e) r.1)) None in
        let now : changed f r.0 es ≡ slice_set es r.0 (f e) =
        ap (λ (o : Option EntryValue). option_map_or (λ e. slice_set es r.0 (f e)) o es) at in
        let is : a.entry ≡ e = (let q : Some a.entry ≡ Some e = sym a.stands ∙ at in cc) in
        let was = heeded_got es r.0 e at hs in (
          subst Hs (sym now) (heeded_set es r.0 (f e) (record {
            asked = λ _. subst
                (λ (z : EntryValue). Asked (id_of z)) is a.asked;
            ended = was.ended;
          }) hs),
          subst (Stay es) (sym now) (stay_set es r.0 e (f e) at refl),
        )

    all_heeded : (rs : List (ℕ × Decision)) (done : Done) → AreAskedAt done.book.entries rs → Hs done.book.entries →
        Hs (release_all me rs done).book.entries
    all_heeded [] done a hs = hs
    all_heeded (r ∷ rs) done a hs =
        let one = release_heeds r done (slice_get done.book.entries r.0) refl a.0 hs in
        all_heeded rs (release_one me r done) (asked_stay done.book.entries (release_one me r done).book.entries one.1 rs a.1) one.0

    end_heeds : (book : BookValue) (t : TransactionValue) (c : CertificateValue) (o : Option OutcomeValue) (done : Done) → Hs book.entries →
        (certs.decision_of c.body ≡ Commit → Ended (id t)) → end_unless_ended me book t c o ≡ Ok done → Hs done.book.entries
    end_heeds book t c (Some outcome) done hs q h =
        subst (λ (d : Done). Hs d.book.entries) (ok_is (quiet book) done (end_unless_ended me book t c (Some outcome)) refl h) hs
    end_heeds book t c None done hs q h =
        let d = certs.decision_of c.body in
        let rs = releases me book.entries (place_of book.entries (id t)) d in
        let start = quiet (with_outcome book t d c) in
        let f : EntryValue → EntryValue = decided d (certificate_bytes c) in
        let stays : Stay book.entries (with_outcome book t d c).entries =
        stay_then book.entries (with_known book.entries t) (with_outcome book t d c).entries (stay_known book.entries t)
        (subst (Stay (with_known book.entries t)) (sym (changed_altered f (id t) (with_known book.entries t)))
        (stay_altered f (λ e. refl) (id t) (with_known book.entries t))) in
        subst (λ (d : Done). Hs d.book.entries) (unless_ok (exhausted (length rs) book.pen) (outcome_done me book t d c rs) done h)
        (all_heeded rs start (asked_stay book.entries (with_outcome book t d c).entries stays rs
        (released_asked book.entries (place_of book.entries (id t)) d hs))
        (heeded_at f (id t) (with_known book.entries t)
        (λ e i he. record { asked = he.asked; ended = λ j. subst Ended (sym i) (q (let k : Some d ≡ Some Commit = j in cc)) })
        (heeded_known book.entries t hs)))

  -- ---- a message

  module _ (me : ReplicaSelf) (now : ℕ) (from : Party) (book : BookValue) (heeded : Hs book.entries) where
    by_kind : (m : MessageValue) (done : Done) → Passed me m →
        ((t : TransactionValue) (signature : List ℕ) → subject m ≡ Some t → Contains (signed_in m) (client_signed t signature) →
        accepts me.accepts (client_signed t signature) ≡ true → form_fault t ≡ None → Asked (id t)) →
        ((w : WritebackValue) → m ≡ Writeback w → form_fault w.transaction ≡ None → certs.decision_of w.certificate.body ≡ Commit →
        refusal me.accepts me.home.cluster w.transaction (certs.decision_of w.certificate.body) w.certificate ≡ None →
        Ended (id w.transaction)) →
        answer_kind me now from book m ≡ Ok done → Hs done.book.entries
    by_kind (Read m) done p f g h = read_heeds me book heeded now from m done h
    by_kind (ReadReply m) done p f g h = absurd cc
    by_kind (St1 m) done p f g h =
        let t = m.transaction in
        let signed = client_signed t m.signature in
        let q = f t m.signature refl (in_head signed []) (each_accepted me.accepts (signed ∷ []) p.signatures signed (in_head signed []))
        (mapped_none BadTransaction (form_fault t) p.form) in
        unless_ended_heeds me book heeded from (id t) (first_stage me now from book t) done
        (λ k. first_heeds me book heeded now from t done q k) h
    by_kind (Vote m) done p f g h = absurd cc
    by_kind (St2 m) done p f g h =
        let t = m.transaction in
        unless_ended_heeds me book heeded from (id t) (log_or_reply me from book t m.decision (logged_with book.logged (id t))) done
        (λ k. log_heeds me book heeded from t m.decision (logged_with book.logged (id t)) done k) h
    by_kind (LogReply m) done p f g h = absurd cc
    by_kind (Writeback m) done p f g h =
        let form : form_fault m.transaction ≡ None = mapped_none BadTransaction (form_fault m.transaction) p.form in
        end_heeds me book m.transaction m.certificate (outcome_with book.entries (id m.transaction)) done heeded
        (λ i. g m refl form i (mapped_none BadCertificate _ p.proof)) h
    by_kind (Recover m) done p f g h =
        let t = m.transaction in
        let signed = client_signed t m.signature in
        let q = f t m.signature refl (in_head signed []) (each_accepted me.accepts (signed ∷ []) p.signatures signed (in_head signed []))
        (mapped_none BadTransaction (form_fault t) p.form) in
        unless_ended_heeds me book heeded from (id t) (recover_by me now from book t (logged_with book.logged (id t))) done
        (λ k. recover_heeds me book heeded now from t (logged_with book.logged (id t)) done q k) h
    by_kind (Invoke m) done p f g h =
        unless_ended_heeds me book heeded from m.id (invoke_logged me from book m (entry_with book.entries m.id)
        (logged_with book.logged m.id)) done
        (λ k. invoke_heeds me book heeded from m (entry_with book.entries m.id) (logged_with book.logged m.id) done k) h
    by_kind (Elect m) done p f g h = elect_heeds me book heeded m done h
    by_kind (Decide m) done p f g h =
        adopt_heeds me book heeded (known_of book.entries m.transaction) m (logged_with book.logged (id m.transaction)) done h

    pub answers_heed : (m : MessageValue) (done : Done) →
        ((t : TransactionValue) (signature : List ℕ) → subject m ≡ Some t → Contains (signed_in m) (client_signed t signature) →
        accepts me.accepts (client_signed t signature) ≡ true → form_fault t ≡ None → Asked (id t)) →
        ((w : WritebackValue) → m ≡ Writeback w → form_fault w.transaction ≡ None → certs.decision_of w.certificate.body ≡ Commit →
        refusal me.accepts me.home.cluster w.transaction (certs.decision_of w.certificate.body) w.certificate ≡ None →
        Ended (id w.transaction)) →
        answer_message me now from book m ≡ Ok done → Hs done.book.entries
    answers_heed m done f g h =
        by_kind m done (passed me m (then_none (refused me m) (answer_kind me now from book m) done h)) f g
        (then_ok (refused me m) (answer_kind me now from book m) done h)
