-- An outcome, and the votes that it releases one after the other.
use Rattle.std.proofs.Common.{◌≡◌, ℕ, ◌+◌, ◌<◌, ◌≤◌, true, List, [], ◌∷◌, ◌++◌}
use Rattle.std.proofs.Common.{Option, Some, None, refl, sym, ap, subst, ◌∙◌, inl, inr, arith}
use Rattle.std.specs.Prelude.{slice_get, is_some, option_map, if◌then◌else◌, not, ⊤}
use Rattle.std.specs.Option.{option_map_or, option_and_then}
use Rattle.std.proofs.lemmas.Option.{same_Some}
use Rattle.basil_types.specs.declared.party.Decision.{Decision}
use Rattle.basil_types.specs.Transaction.{TransactionValue, id}
use Rattle.frame_views.specs.Spelling.{certificate_bytes}
use Rattle.frame_views.specs.Values.{CertificateValue}
use Rattle.txn_meta.specs.Conflicts.{ShardConflicts}
use Rattle.txn_table.specs.declared.released.Supposed.{Supposed}
use Rattle.txn_table.specs.Entries.{EntryValue, OutcomeValue, arrived, voted, decided, is_waiting}
use Rattle.txn_table.specs.Laws.{IdsTellPlaces, ReleasedAscend, Ascend}
use Rattle.txn_table.specs.Released.{is_aborted, released}
use Rattle.txn_table.specs.Tables.{changed, place_of}
use Rattle.mvtso_check.specs.Book.{waits_or_commits}
use Rattle.replica_core.specs.Known.{changed_at, outcome_with}
use Rattle.replica_core.specs.Replicas.{ReplicaSelf, BookValue, Done, quiet}
use Rattle.replica_core.specs.Signing.{vote_words, signature}
use Rattle.replica_core.specs.Writebacks.{release_all, release_one, release_entry, releases, with_outcome, outcome_done}
use Rattle.conflict_laws.proofs.Standing.{Come, apart_after, first, got_changed, stays_open, waits_stands}
use Rattle.conflict_laws.proofs.Following.{Follows, ended_changed, follows_at, follows_same, follows_then, known_or_new, other_stays}

-- it waits, and has no outcome
abbrev pub IsWaiting : EntryValue → Type 0
IsWaiting e = (is_waiting e.vote ≡ true) × (e.outcome ≡ None)

-- from this place on each of these places has an entry that waits
abbrev pub AreWaiting : List EntryValue → ℕ → List (ℕ × Decision) → Type 0
AreWaiting es least [] = ⊤
AreWaiting es least (v ∷ vs) =
    (least ≤ v.0) × ((e : EntryValue) × (slice_get es v.0 ≡ Some e) × IsWaiting e) × AreWaiting es (v.0 + 1) vs

waiting_other : (f : EntryValue → EntryValue) (place : ℕ) (es : List EntryValue) (least : ℕ) (vs : List (ℕ × Decision)) →
    place < least → AreWaiting es least vs → AreWaiting (changed f place es) least vs
waiting_other f place es least [] h a = tt
waiting_other f place es least (v ∷ vs) h a =
    let below = a.0 in (
      a.0,
      (a.1.0, other_stays f place es v.0 (λ e. absurd (omega (arith, h, below, e))) ∙ a.1.1, a.1.2),
      waiting_other f place es (v.0 + 1) vs (omega (arith, h, below)) a.2,
    )

undecided : (o : Option OutcomeValue) → option_map (λ (o : OutcomeValue). o.decision) o ≡ None → o ≡ None
undecided None h = refl
undecided (Some o) h = absurd cc

module _ (laws : ShardConflicts) (me : ReplicaSelf) where
  -- ---- releases

  follows_voted : (d : Decision) (s : List ℕ) (p : Option ℕ) (place : ℕ) (es : List EntryValue) (e : EntryValue) →
      slice_get es place ≡ Some e → IsWaiting e → Follows me.home es (changed (voted d s p) place es)
  follows_voted d s p place es e at w =
      let come : Come me.home es (changed (voted d s p) place es) place =
      λ q y h k. elim (got_changed (voted d s p) place es q y h) [
        | inl old ↦ inl (record { entry = y; at = old; text = refl; stayed = k })
        | inr new ↦
            let same : new.entry ≡ e = same_Some _ _ (sym new.at ∙ at) in
            inl (record {
              entry = e;
              at = ap (slice_get es) new.here ∙ at;
              text = ap (λ (e : EntryValue). e.transaction) (sym same) ∙ sym (ap (λ (e : EntryValue). e.transaction) new.made);
              stayed = stays_open e (waits_stands e.vote w.0) w.1;
            })
      ] in
      record {
        apart = λ a. apart_after laws me.home es (changed (voted d s p) place es) a place come;
        ended = ended_changed (voted d s p) place es
            (λ x i. ap (λ (e : EntryValue). e.outcome) (same_Some _ _ (sym i ∙ at)) ∙ w.1);
      }

  pub releases_follow : (least : ℕ) (vs : List (ℕ × Decision)) (done : Done) → AreWaiting done.book.entries least vs →
      Follows me.home done.book.entries (release_all me vs done).book.entries
  releases_follow least [] done a = follows_same me.home done.book.entries
  releases_follow least (v ∷ vs) done a =
      let e = a.1.0 in
      let next = release_entry me v.0 v.1 done e in
      let given = signature me done.book.pen (vote_words me (id e.transaction) v.1) in
      let is : release_one me v done ≡ next = ap (λ o. option_map_or (release_entry me v.0 v.1 done) o done) a.1.1 in
      let one : Follows me.home done.book.entries next.book.entries =
      follows_voted v.1 given None v.0 done.book.entries e a.1.1 a.1.2 in
      let more = releases_follow (v.0 + 1) vs next
      (waiting_other (voted v.1 given None) v.0 done.book.entries (v.0 + 1) vs (omega arith) a.2) in
      subst (λ (x : Done). Follows me.home done.book.entries (release_all me vs x).book.entries) (sym is)
      (follows_then me.home done.book.entries next.book.entries _ one more)

  -- ---- an outcome

  pub outcome_follows : IdsTellPlaces → (book : BookValue) (t : TransactionValue) (d : Decision) (c : CertificateValue) →
      outcome_with book.entries (id t) ≡ None → Follows me.home book.entries (with_outcome book t d c).entries
  outcome_follows tables book t d c none =
      follows_at laws me.home (decided d (certificate_bytes c)) t book.entries (λ e. refl) (λ place x h i.
      let unended : x.outcome ≡ None = known_or_new tables book.entries t (λ (e : EntryValue). e.outcome ≡ None) refl
      (λ e there. sym (ap (option_and_then (λ (e : EntryValue). e.outcome)) there) ∙ none) place x h i in
      record {
        unended = unended;
        stands = λ s. inl (stays_open x (first (waits_or_commits x.vote) (not (is_aborted (Some d))) s) unended);
      })

  waiting_after : (f : EntryValue → EntryValue) (s : Supposed) (es : List EntryValue) (least : ℕ) (vs : List (ℕ × Decision)) →
      Ascend s es least vs → AreWaiting (changed f s.place es) least vs
  waiting_after f s es least [] a = tt
  waiting_after f s es least (v ∷ vs) a =
      let can = a.1 in (
        a.0,
        (
          can.entry,
          other_stays f s.place es v.0 can.other ∙ can.at,
          (can.waits, undecided can.entry.outcome can.undecided),
        ),
        waiting_after f s es (v.0 + 1) vs a.2,
      )

  -- what an outcome of a known transaction releases waits then
  pub known_end : ReleasedAscend → (book : BookValue) (t : TransactionValue) (d : Decision) (c : CertificateValue) (place : ℕ) →
      place_of book.entries (id t) ≡ Some place →
      AreWaiting (with_outcome book t d c).entries 0 (releases me book.entries (Some place) d)
  known_end ascend book t d c place there =
      let s : Supposed = record { place = place; outcome = d } in
      let f = decided d (certificate_bytes c) in
      let is : changed f place book.entries ≡ (with_outcome book t d c).entries = sym (
      ap (λ o. changed_at f (id t) (if is_some o then book.entries else book.entries ++ arrived t ∷ [])) there
      ∙ ap (λ o. option_map_or (λ place. changed f place book.entries) o book.entries) there) in
      subst (λ (es : List EntryValue). AreWaiting es 0 (released me.home s book.entries)) is
      (waiting_after f s book.entries 0 (released me.home s book.entries) (ascend me.home s book.entries))

  pub end_follows : IdsTellPlaces → (book : BookValue) (t : TransactionValue) (d : Decision) (c : CertificateValue) →
      outcome_with book.entries (id t) ≡ None → (vs : List (ℕ × Decision)) → AreWaiting (with_outcome book t d c).entries 0 vs →
      Follows me.home book.entries (outcome_done me book t d c vs).book.entries
  end_follows tables book t d c none vs a =
      let start = quiet (with_outcome book t d c) in
      follows_then me.home book.entries start.book.entries _ (outcome_follows tables book t d c none)
      (releases_follow 0 vs start a)
