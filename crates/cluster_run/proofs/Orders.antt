-- An answer leaves a book in order.
use Rattle.std.proofs.Common.{◌≡◌, ℕ, Bool, true, false, cond, List, [], ◌∷◌, ◌++◌, length, Option, Some, None, refl, sym, subst, ◌∙◌}
use Rattle.std.specs.Prelude.{position, is_some, slice_get, slice_set, Result, Ok}
use Rattle.std.specs.Cmp.Lexicographic.{nat_list_eq_equiv}
use Rattle.std.specs.List.{IsDistinct, list_any}
use Rattle.std.specs.Option.{option_map_or}
use Rattle.std.specs.Str.{bytes_eq}
use Rattle.std.proofs.lemmas.Bool.{or_from}
use Rattle.std.proofs.lemmas.Map.Keys.{IsDistinct-push}
use Rattle.std.proofs.lemmas.List.{map-append}
use Rattle.basil_types.specs.Built.{or_else}
use Rattle.basil_types.specs.declared.party.Party.{Party}
use Rattle.basil_types.specs.declared.party.Decision.{Decision}
use Rattle.basil_types.specs.declared.party.Decision.TheVariants.{Commit, Abort}
use Rattle.basil_types.specs.Transaction.{TransactionValue, id}
use Rattle.mvtso_check.specs.declared.verdict.Verdict.{Verdict}
use Rattle.mvtso_check.specs.declared.verdict.Verdict.TheVariants as verdicts
use Rattle.txn_table.specs.Entries.{EntryValue, VoteValue, Unvoted, Waiting, Voted, OutcomeValue, arrived, asked, voted, decided}
use Rattle.txn_table.specs.Tables.{id_of, ids_of, place_of, changed, entry_with}
use Rattle.frame_views.specs.Spelling.{certificate_bytes}
use Rattle.frame_views.specs.Values.{CertificateValue, InvokeValue}
use Rattle.replica_core.specs.declared.refusal.Refusal.{Refusal}
use Rattle.replica_core.specs.Replicas.{ReplicaSelf, BookValue, LoggedEntry, Done, quiet}
use Rattle.replica_core.specs.Known.{changed_at, with_known, known_of}
use Rattle.replica_core.specs.Signing.{exhausted}
use Rattle.node_steps.specs.Refusing.{unless}
use Rattle.replica_core.specs.FirstStage.{votes, vote_done, wait_done, by_verdict, verdict_of, by_vote, answer_known, first_stage, told_or}
use Rattle.replica_core.specs.FirstStage.{unless_ended, tell_outcome}
use Rattle.replica_core.specs.SecondStage.{reply_again, reply_anew, reply_by, reply_of, log_or_reply, unsigned, recover_by, logs_here}
use Rattle.replica_core.specs.Writebacks.{release_entry, release_one, release_all, releases, outcome_done, with_outcome, end_unless_ended}
use Rattle.replica_core.specs.Invokes.{invoke_logged, enter_done}
use Rattle.cluster_run.specs.Settings.{Lookup, Finds}
use Rattle.cluster_run.specs.Acting.{FindsEach}
use Rattle.cluster_run.proofs.Finding.{entry_found, looked_found, none_parts, ok_is, none_is}
use Rattle.cluster_run.proofs.Placing.{ids_set, looked_set}
use Rattle.cluster_run.proofs.Steps.{unless_ok}

-- known transactions are those of their ids, each once
pub record Fine (tx : Lookup) (es : List EntryValue) : Type 0 where
  pub looked : FindsEach tx es
  pub distinct : IsDistinct bytes_eq (ids_of es)

-- ---- a transaction that becomes known

none_any : (x : List ℕ) (ys : List (List ℕ)) → position (bytes_eq x) ys ≡ None → list_any (λ y. bytes_eq x y) ys ≡ false
none_any x [] h = refl
none_any x (y ∷ ys) h =
    let parts = none_parts (bytes_eq x) y ys h in or_from (bytes_eq x y) (list_any (λ y. bytes_eq x y) ys) parts.0 (none_any x ys parts.1)

looked_push : (tx : Lookup) (es : List EntryValue) (t : TransactionValue) → Finds tx t → FindsEach tx es →
    FindsEach tx (es ++ arrived t ∷ [])
looked_push tx [] t l a = (l, tt)
looked_push tx (e ∷ es) t l a = (a.0, looked_push tx es t l a.1)

fine_push : (tx : Lookup) (es : List EntryValue) (t : TransactionValue) → Finds tx t → place_of es (id t) ≡ None → Fine tx es →
    Fine tx (es ++ arrived t ∷ [])
fine_push tx es t l h f = record {
  looked = looked_push tx es t l f.looked;
  distinct =
      subst (IsDistinct bytes_eq) (sym (map-append id_of es (arrived t ∷ [])))
      (IsDistinct-push nat_list_eq_equiv (ids_of es) (id t) f.distinct (none_any (id t) (ids_of es) h));
}

pub fine_known : (tx : Lookup) (es : List EntryValue) (t : TransactionValue) → Finds tx t → Fine tx es → Fine tx (with_known es t)
fine_known tx es t l f = by (is_some (place_of es (id t))) refl
  where
    by : (b : Bool) → is_some (place_of es (id t)) ≡ b → Fine tx (cond b es (es ++ arrived t ∷ []))
    by true h = f
    by false h = fine_push tx es t l (none_is (place_of es (id t)) h) f

-- ---- a change that keeps the transaction

module _ (tx : Lookup) (f : EntryValue → EntryValue) (keeps : (e : EntryValue) → (f e).transaction ≡ e.transaction) where
  set_fine : (es : List EntryValue) (p : ℕ) (o : Option EntryValue) → slice_get es p ≡ o → Fine tx es →
      Fine tx (option_map_or (λ e. slice_set es p (f e)) o es)
  set_fine es p None h g = g
  set_fine es p (Some e) h g = record {
    looked = looked_set tx es p e (f e) h (keeps e) g.looked;
    distinct = subst (IsDistinct bytes_eq) (sym (ids_set es p e (f e) h (keeps e))) g.distinct;
  }

  pub fine_changed : (es : List EntryValue) (p : ℕ) → Fine tx es → Fine tx (changed f p es)
  fine_changed es p g = set_fine es p (slice_get es p) refl g

  at_fine : (es : List EntryValue) (o : Option ℕ) → Fine tx es → Fine tx (option_map_or (λ place. changed f place es) o es)
  at_fine es None g = g
  at_fine es (Some p) g = fine_changed es p g

  pub fine_at : (es : List EntryValue) (x : List ℕ) → Fine tx es → Fine tx (changed_at f x es)
  fine_at es x g = at_fine es (place_of es x) g

-- ---- answers that keep the collected words

-- known transactions are in order, and the collected words are as before
pub record Keeps (tx : Lookup) (old new : BookValue) : Type 0 where
  pub fine : Fine tx new.entries
  pub kept : new.kept ≡ old.kept

module _ (tx : Lookup) (me : ReplicaSelf) (book : BookValue) (fine : Fine tx book.entries) where
  abbrev K : Done → Type 0
  K done = Keeps tx book done.book

  same_kept : (done : Done) → done.book.entries ≡ book.entries → done.book.kept ≡ book.kept → K done
  same_kept done e k = record { fine = subst (Fine tx) (sym e) fine; kept = k }

  -- what is done without a refusal
  unless_keeps : (o : Option Refusal) (a done : Done) → K a → unless o a ≡ Ok done → K done
  unless_keeps o a done k h = subst K (unless_ok o a done h) k

  ok_keeps : (a done : Done) (the : Result Done Refusal) → K a → the ≡ Ok a → the ≡ Ok done → K done
  ok_keeps a done the k e h = subst K (ok_is a done the e h) k

  known_keeps : (done : Done) (t : TransactionValue) → Finds tx t → done.book.entries ≡ with_known book.entries t → done.book.kept
      ≡ book.kept → K done
  known_keeps done t l e k = record { fine = subst (Fine tx) (sym e) (fine_known tx book.entries t l fine); kept = k }

  -- ---- the first stage

  wait_keeps : (from : Party) (t : TransactionValue) → Finds tx t → K (wait_done from book t)
  wait_keeps from t l = record {
    fine = fine_at tx (asked from) (λ e. refl) (with_known book.entries t) (id t)
        (fine_known tx book.entries t l fine);
    kept = refl;
  }

  vote_keeps : (from : Party) (t : TransactionValue) (d : Decision) (proof : Option ℕ) → Finds tx t → K (vote_done me from book t d proof)
  vote_keeps from t d proof l =
      record {
        fine = fine_at tx (voted d (Rattle.replica_core.specs.Signing.signature me book.pen
            (Rattle.replica_core.specs.Signing.vote_words me (id t) d)) proof) (λ e. refl) (with_known book.entries t) (id t)
            (fine_known tx book.entries t l fine);
        kept = refl;
      }

  votes_keep : (from : Party) (t : TransactionValue) (d : Decision) (proof : Option ℕ) (done : Done) → Finds tx t →
      votes me from book t d proof ≡ Ok done → K done
  votes_keep from t d proof done l h =
      unless_keeps (exhausted 1 book.pen) (vote_done me from book t d proof) done (vote_keeps from t d proof l) h

  verdict_keeps : (from : Party) (t : TransactionValue) (v : Verdict) (done : Done) → Finds tx t → by_verdict me from book t v ≡ Ok done →
      K done
  verdict_keeps from t verdicts.Commit done l h = votes_keep from t Commit None done l h
  verdict_keeps from t verdicts.Abort done l h = votes_keep from t Abort None done l h
  verdict_keeps from t (verdicts.AbortBy place) done l h = votes_keep from t Abort (Some place) done l h
  verdict_keeps from t verdicts.Wait done l h =
      ok_keeps (wait_done from book t) done (by_verdict me from book t verdicts.Wait) (wait_keeps from t l) refl h

  quiet_keeps : (sent : List Rattle.node_steps.specs.Envelopes.EnvelopeValue) → K (record { book = book; signed = []; sent = sent })
  quiet_keeps sent = record { fine = fine; kept = refl }

  by_vote_keeps : (now : ℕ) (from : Party) (t : TransactionValue) (v : VoteValue) (done : Done) → Finds tx t → by_vote me now from book t v
      ≡ Ok done → K done
  by_vote_keeps now from t Unvoted done l h = verdict_keeps from t (verdict_of me now book t) done l h
  by_vote_keeps now from t (Waiting askers) done l h =
      ok_keeps (wait_done from book t) done (by_vote me now from book t (Waiting askers)) (wait_keeps from t l) refl h
  by_vote_keeps now from t (Voted d given place) done l h =
      ok_keeps _ done (by_vote me now from book t (Voted d given place))
      (quiet_keeps (Rattle.replica_core.specs.FirstStage.vote_to from
      (Rattle.replica_core.specs.FirstStage.vote_value me book.entries (id t) d place given) ∷ [])) refl h

  known_answer_keeps : (now : ℕ) (from : Party) (t : TransactionValue) (o : Option EntryValue) (done : Done) → Finds tx t →
      entry_with book.entries (id t) ≡ o → answer_known me now from book t o ≡ Ok done → K done
  known_answer_keeps now from t None done l e h = verdict_keeps from t (verdict_of me now book t) done l h
  known_answer_keeps now from t (Some d) done l e h =
      let is : t ≡ d.transaction = sym l ∙ looked_found tx book.entries (id t) d fine.looked (sym (entry_found (id t) book.entries) ∙ e) in
      by_vote_keeps now from d.transaction d.vote done (subst (Finds tx) is l) h

  pub first_stage_keeps : (now : ℕ) (from : Party) (t : TransactionValue) (done : Done) → Finds tx t → first_stage me now from book t
      ≡ Ok done → K done
  first_stage_keeps now from t done l h = known_answer_keeps now from t (entry_with book.entries (id t)) done l refl h

  ended_keeps : (from : Party) (d : EntryValue) (o : Option OutcomeValue) (answer : Result Done Refusal) (done : Done) →
      (answer ≡ Ok done → K done) → option_map_or (λ (o : OutcomeValue). Ok (tell_outcome from book d o)) o answer ≡ Ok done → K done
  ended_keeps from d None answer done go h = go h
  ended_keeps from d (Some outcome) answer done go h =
      ok_keeps (tell_outcome from book d outcome) done
      (option_map_or (λ (o : OutcomeValue). Ok (tell_outcome from book d o)) (Some outcome) answer)
      (quiet_keeps (tell_outcome from book d outcome).sent) refl h

  if_ended_keeps : (from : Party) (o : Option EntryValue) (answer : Result Done Refusal) (done : Done) → (answer ≡ Ok done → K done) →
      option_map_or (told_or from book answer) o answer ≡ Ok done → K done
  if_ended_keeps from None answer done go h = go h
  if_ended_keeps from (Some d) answer done go h = ended_keeps from d d.outcome answer done go h

  pub unless_ended_keeps : (from : Party) (x : List ℕ) (answer : Result Done Refusal) (done : Done) → (answer ≡ Ok done → K done) →
      unless_ended from book x answer ≡ Ok done → K done
  unless_ended_keeps from x answer done go h = if_ended_keeps from (entry_with book.entries x) answer done go h

  -- ---- the second stage, recoveries and invokes

  reply_keeps : (from : Party) (t : TransactionValue) (l : LoggedEntry) (o : Option (List ℕ)) (done : Done) → Finds tx t →
      reply_by me from book t l o ≡ Ok done → K done
  reply_keeps from t l (Some stored) done k h =
      ok_keeps (reply_again me from book t l stored) done (reply_by me from book t l (Some stored))
      (known_keeps (reply_again me from book t l stored) t k refl refl) refl h
  reply_keeps from t l None done k h =
      unless_keeps (exhausted 1 book.pen) (reply_anew me from book t l) done (known_keeps (reply_anew me from book t l) t k refl refl) h

  pub log_keeps : (from : Party) (t : TransactionValue) (d : Decision) (o : Option LoggedEntry) (done : Done) → Finds tx t →
      log_or_reply me from book t d o ≡ Ok done → K done
  log_keeps from t d (Some l) done k h = reply_keeps from t l l.reply done k h
  log_keeps from t d None done k h = reply_keeps from t (unsigned (id t) (Rattle.decision_log.specs.Cells.first_cell d)) None done k h

  pub recover_keeps : (now : ℕ) (from : Party) (t : TransactionValue) (o : Option LoggedEntry) (done : Done) → Finds tx t →
      recover_by me now from book t o ≡ Ok done → K done
  recover_keeps now from t None done k h = first_stage_keeps now from t done k h
  recover_keeps now from t (Some l) done k h = by (logs_here me (known_of book.entries t)) h
    where
      by : (b : Bool) → cond b (reply_of me from book t l) (first_stage me now from book t) ≡ Ok done → K done
      by true h = reply_keeps from t l l.reply done k h
      by false h = first_stage_keeps now from t done k h

  pub invoke_keeps : (from : Party) (m : InvokeValue) (e : Option EntryValue) (l : Option LoggedEntry) (done : Done) →
      invoke_logged me from book m e l ≡ Ok done → K done
  invoke_keeps from m None l done h = absurd cc
  invoke_keeps from m (Some e) None done h = absurd cc
  invoke_keeps from m (Some e) (Some l) done h =
      let view = Rattle.fallback_views.specs.Views.raised me.home.cluster.f (Rattle.replica_core.specs.Invokes.reported m) l.cell.current in
      unless_keeps (or_else (Rattle.replica_core.specs.Invokes.stale l.cell.current view) (exhausted 1 book.pen))
      (enter_done me from book e.transaction l view) done (same_kept (enter_done me from book e.transaction l view) refl refl) h

-- ---- writebacks

module _ (tx : Lookup) (me : ReplicaSelf) where
  release_keeps : (r : ℕ × Decision) (done : Done) (o : Option EntryValue) → Fine tx done.book.entries →
      Fine tx (option_map_or (release_entry me r.0 r.1 done) o done).book.entries
  release_keeps r done None f = f
  release_keeps r done (Some e) f =
      fine_changed tx (voted r.1 (Rattle.replica_core.specs.Signing.signature me done.book.pen
      (Rattle.replica_core.specs.Signing.vote_words me (id_of e) r.1)) None) (λ e. refl) done.book.entries r.0 f

  release_kept : (r : ℕ × Decision) (done : Done) (o : Option EntryValue) → (option_map_or (release_entry me r.0 r.1 done) o done).book.kept
      ≡ done.book.kept
  release_kept r done None = refl
  release_kept r done (Some e) = refl

  all_fine : (rs : List (ℕ × Decision)) (done : Done) → Fine tx done.book.entries → Fine tx (release_all me rs done).book.entries
  all_fine [] done f = f
  all_fine (r ∷ rs) done f = all_fine rs (release_one me r done) (release_keeps r done (slice_get done.book.entries r.0) f)

  all_kept : (rs : List (ℕ × Decision)) (done : Done) → (release_all me rs done).book.kept ≡ done.book.kept
  all_kept [] done = refl
  all_kept (r ∷ rs) done = all_kept rs (release_one me r done) ∙ release_kept r done (slice_get done.book.entries r.0)

  pub end_keeps : (book : BookValue) (t : TransactionValue) (c : CertificateValue) (o : Option OutcomeValue) (done : Done) →
      Fine tx book.entries → Finds tx t → end_unless_ended me book t c o ≡ Ok done → Keeps tx book done.book
  end_keeps book t c (Some outcome) done f l h =
      subst (λ (d : Done). Keeps tx book d.book) (ok_is (quiet book) done (end_unless_ended me book t c (Some outcome)) refl h)
      (record { fine = f; kept = refl })
  end_keeps book t c None done f l h =
      let d = Rattle.certificates.specs.Refusals.decision_of c.body in
      let rs = releases me book.entries (place_of book.entries (id t)) d in
      let start = quiet (with_outcome book t d c) in
      subst (λ (d : Done). Keeps tx book d.book) (unless_ok (exhausted (length rs) book.pen) (outcome_done me book t d c rs) done h)
      (record {
        fine = all_fine rs start (fine_at tx (decided d (certificate_bytes c)) (λ e. refl) (with_known book.entries t) (id t)
            (fine_known tx book.entries t l f));
        kept = all_kept rs start;
      })
