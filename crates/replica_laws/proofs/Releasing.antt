-- An outcome, and the votes that it releases one after the other.
use Rattle.std.proofs.Common.{◌≡◌, ℕ, ◌+◌, ◌<◌, ◌≤◌, true, List, [], ◌∷◌, ◌++◌, length, length-append, append_assoc}
use Rattle.std.proofs.Common.{Option, Some, None, refl, sym, ap, subst, ◌∙◌, inl, inr, arith}
use Rattle.std.specs.Prelude.{slice_get, is_some, if◌then◌else◌, ⊤}
use Rattle.std.specs.Option.{option_map_or, option_and_then}
use Rattle.std.proofs.lemmas.Option.{same_Some}
use Rattle.basil_types.specs.declared.party.Decision.{Decision}
use Rattle.basil_types.specs.Transaction.{TransactionValue, id}
use Rattle.basil_types.specs.Words.{SignedWords, VoteOf, VoteWords}
use Rattle.certificates.specs.Refusals.{decision_of}
use Rattle.frame_views.specs.Spelling.{certificate_bytes}
use Rattle.frame_views.specs.Values.{CertificateValue}
use Rattle.txn_table.specs.declared.released.Supposed.{Supposed}
use Rattle.txn_table.specs.Entries.{EntryValue, arrived, voted, decided, is_waiting}
use Rattle.txn_table.specs.Laws.{IdsTellPlaces, ReleasedAscend, Ascend}
use Rattle.txn_table.specs.Released.{released}
use Rattle.txn_table.specs.Tables.{changed, place_of}
use Rattle.replica_core.specs.Known.{changed_at, with_known, outcome_with}
use Rattle.replica_core.specs.Replicas.{ReplicaSelf, BookValue, Done, quiet}
use Rattle.replica_core.specs.Signing.{exhausted, vote_words, signature}
use Rattle.replica_core.specs.Writebacks.{release_all, release_one, release_entry, releases, with_outcome, outcome_done, end_with}
use Rattle.replica_core.specs.Writebacks.{end_unless_ended}
use Rattle.replica_laws.specs.Steps.{Grows, Spends}
use Rattle.replica_laws.proofs.Growing.{IsOpen, keeps_voted, keeps_decided, grows_same, grows_then, grows_at, grows_changed}
use Rattle.replica_laws.proofs.Growing.{grows_known, known_or_new, other_stays}
use Rattle.replica_laws.proofs.Going.{Accepted, calm, can_sign, unless_goes, unlogged}
use Rattle.replica_laws.proofs.Viewing.{Views, no_log, views_same}
use Rattle.replica_laws.proofs.Voting.{Once, once_at, placed_at, placed_known}

-- from this place on each of these places has an entry without a vote
abbrev pub AreOpen : List EntryValue → ℕ → List (ℕ × Decision) → Type 0
AreOpen es least [] = ⊤
AreOpen es least (v ∷ vs) =
    (least ≤ v.0) × ((e : EntryValue) × (slice_get es v.0 ≡ Some e) × IsOpen e) × AreOpen es (v.0 + 1) vs

pub open_other : (f : EntryValue → EntryValue) (place : ℕ) (es : List EntryValue) (least : ℕ) (vs : List (ℕ × Decision)) →
    place < least → AreOpen es least vs → AreOpen (changed f place es) least vs
open_other f place es least [] h a = tt
open_other f place es least (v ∷ vs) h a =
    let below = a.0 in (
      a.0,
      (a.1.0, other_stays f place es v.0 (λ e. absurd (omega (arith, h, below, e))) ∙ a.1.1, a.1.2),
      open_other f place es (v.0 + 1) vs (omega (arith, h, below)) a.2,
    )

-- ---- releases

-- what releases do to what was done before
pub record Releases (old new : Done) (count : ℕ) : Type 0 where
  pub grows : Grows old.book.entries new.book.entries
  pub signed : length new.signed ≡ length old.signed + count
  pub spent : new.book.pen.spent ≡ old.book.pen.spent + count
  pub left : new.book.pen.left + count ≡ old.book.pen.left
  pub once : (ws : List SignedWords) → Once old.book.entries (ws ++ old.signed) → Once new.book.entries (ws ++ new.signed)
  pub views : (ws : List SignedWords) → Views old.book.logged (ws ++ old.signed) → Views new.book.logged (ws ++ new.signed)

module _ (laws : IdsTellPlaces) (me : ReplicaSelf) where
  one_goes : (place : ℕ) (d : Decision) (done : Done) (e : EntryValue) → slice_get done.book.entries place ≡ Some e → IsOpen e →
      1 ≤ done.book.pen.left → Releases done (release_entry me place d done e) 1
  one_goes place d done e at unvoted some =
      let given = signature me done.book.pen (vote_words me (id e.transaction) d) in
      let v : VoteOf = record { shard = me.home.shard; replica = me.index; id = id e.transaction; decision = d } in
      let es = done.book.entries in
      let grows : Grows es (changed (voted d given None) place es) = grows_changed (voted d given None) place es
      (λ x i. keeps_voted d given None x (subst IsOpen (same_Some _ _ (sym at ∙ i)) unvoted)) in
      record {
        grows = grows;
        views = λ ws g. subst (Views done.book.logged) (append_assoc ws done.signed (VoteWords v ∷ []))
            (views_same done.book.logged (ws ++ done.signed) (VoteWords v ∷ []) (no_log (VoteWords v) (λ a e. absurd cc)) g);
        once = λ ws o. subst (Once (changed (voted d given None) place es)) (append_assoc ws done.signed (VoteWords v ∷ []))
            (once_at laws es place e (ws ++ done.signed) v given None grows at unvoted refl o);
        signed = length-append done.signed (vote_words me (id e.transaction) d ∷ []);
        spent = refl;
        left = omega (arith, some);
      }

  pub releases_go : (least : ℕ) (vs : List (ℕ × Decision)) (done : Done) → AreOpen done.book.entries least vs →
      length vs ≤ done.book.pen.left → Releases done (release_all me vs done) (length vs)
  releases_go least [] done a some =
      record {
        grows = grows_same done.book.entries;
        signed = omega arith;
        spent = omega arith;
        left = omega arith;
        once = λ ws o. o;
        views = λ ws g. g;
      }
  releases_go least (v ∷ vs) done a some =
      let e = a.1.0 in
      let next = release_entry me v.0 v.1 done e in
      let one = one_goes v.0 v.1 done e a.1.1 a.1.2 (omega (arith, some)) in
      let is : release_one me v done ≡ next = ap (λ o. option_map_or (release_entry me v.0 v.1 done) o done) a.1.1 in
      let given = signature me done.book.pen (vote_words me (id e.transaction) v.1) in
      let here = one.left in
      let more = releases_go (v.0 + 1) vs next
      (open_other (voted v.1 given None) v.0 done.book.entries (v.0 + 1) vs (omega arith) a.2) (omega (arith, some, here)) in
      let s1 = one.signed in
      let s2 = more.signed in
      let p1 = one.spent in
      let p2 = more.spent in
      let l1 = one.left in
      let l2 = more.left in
      subst (λ (x : Done). Releases done (release_all me vs x) (length (v ∷ vs))) (sym is) (record {
        grows = grows_then done.book.entries next.book.entries _ one.grows more.grows;
        signed = omega (arith, s1, s2);
        spent = omega (arith, p1, p2);
        left = omega (arith, l1, l2);
        once = λ ws o. more.once ws (one.once ws o);
        views = λ ws g. more.views ws (one.views ws g);
      })

-- ---- an outcome

module _ (laws : IdsTellPlaces) (ascend : ReleasedAscend) (me : ReplicaSelf) (book : BookValue) where
  open_waiting : (e : EntryValue) → is_waiting e.vote ≡ true → IsOpen e
  open_waiting e h d s p i = let n = ap is_waiting i in absurd cc

  open_after : (f : EntryValue → EntryValue) (s : Supposed) (es : List EntryValue) (least : ℕ) (vs : List (ℕ × Decision)) →
      Ascend s es least vs → AreOpen (changed f s.place es) least vs
  open_after f s es least [] a = tt
  open_after f s es least (v ∷ vs) a =
      let can = a.1 in (
        a.0,
        (can.entry, other_stays f s.place es v.0 can.other ∙ can.at, open_waiting can.entry can.waits),
        open_after f s es (v.0 + 1) vs a.2,
      )

  pub grows_outcome : (t : TransactionValue) (d : Decision) (c : CertificateValue) → outcome_with book.entries (id t) ≡ None →
      Grows book.entries (with_outcome book t d c).entries
  grows_outcome t d c none =
      let es = with_known book.entries t in
      grows_then book.entries es _ (grows_known book.entries t)
      (grows_at (decided d (certificate_bytes c)) (id t) es (λ place e h i. keeps_decided d (certificate_bytes c) e
      (elim (known_or_new laws book.entries t place e h i) [
        | inl there ↦ sym (ap (option_and_then (λ (e : EntryValue). e.outcome)) there) ∙ none
        | inr new ↦ ap (λ (e : EntryValue). e.outcome) new
      ])))

  module _ (t : TransactionValue) (c : CertificateValue) (none : outcome_with book.entries (id t) ≡ None) where
    by_releases : (d : Decision) (least : ℕ) (vs : List (ℕ × Decision)) → AreOpen (with_outcome book t d c).entries least vs →
        Accepted book (end_with me book t d c vs)
    by_releases d least vs a =
        unless_goes book (exhausted (length vs) book.pen) (outcome_done me book t d c vs) (λ left.
        let start = quiet (with_outcome book t d c) in
        let r = releases_go laws me least vs start a (can_sign (length vs) book.pen left) in
        let s = r.signed in
        let is : length (outcome_done me book t d c vs).signed ≡ length vs = omega (arith, s) in
        record {
          grows = grows_then book.entries start.book.entries _ (grows_outcome t d c none) r.grows;
          spends = subst (Spends book (outcome_done me book t d c vs).book) (sym is) (record { spent = r.spent; left = r.left });
          views = λ ws g. r.views ws (unlogged book start refl (λ a h. h) ws g);
          once = λ ws o. r.once ws (calm book start (grows_outcome t d c none)
              (λ p. placed_at laws (decided d (certificate_bytes c)) (id t) (with_known book.entries t) (λ e. refl)
              (placed_known laws book.entries t p)) (λ x. refl) ws o);
        })

    pub known_end : (d : Decision) (place : ℕ) → place_of book.entries (id t) ≡ Some place →
        AreOpen (with_outcome book t d c).entries 0 (releases me book.entries (Some place) d)
    known_end d place there =
        let s : Supposed = record { place = place; outcome = d } in
        let f = decided d (certificate_bytes c) in
        let is : changed f place book.entries ≡ (with_outcome book t d c).entries = sym (
        ap (λ o. changed_at f (id t) (if is_some o then book.entries else book.entries ++ arrived t ∷ [])) there
        ∙ ap (λ o. option_map_or (λ place. changed f place book.entries) o book.entries) there) in
        subst (λ (es : List EntryValue). AreOpen es 0 (released me.home s book.entries)) is
        (open_after f s book.entries 0 (released me.home s book.entries) (ascend me.home s book.entries))

    pub end_goes : Accepted book (end_unless_ended me book t c None)
    end_goes = by (place_of book.entries (id t)) refl
      where
        by : (o : Option ℕ) → place_of book.entries (id t) ≡ o
            → Accepted book (end_with me book t (decision_of c.body) c (releases me book.entries o (decision_of c.body)))
        by None there = by_releases (decision_of c.body) 0 [] tt
        by (Some place) there = by_releases (decision_of c.body) 0 (releases me book.entries (Some place) (decision_of c.body))
            (known_end (decision_of c.body) place there)
