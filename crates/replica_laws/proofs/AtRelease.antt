-- A released vote is signed in the step that releases it.
use Rattle.std.proofs.Common.{◌≡◌, ℕ, zero, suc, ◌+◌, ◌≤◌, Bool, cond, List, [], ◌∷◌, ◌++◌, length}
use Rattle.std.proofs.Common.{Option, Some, None, refl, sym, ap, subst, ◌∙◌, ◌⊎◌, inl, inr, arith}
use Rattle.std.specs.Prelude.{slice_get, filter_map, option_map}
use Rattle.std.specs.List.{cons_option, enumerate_from}
use Rattle.std.specs.Option.{option_map_or}
use Rattle.std.proofs.lemmas.Bool.{le-ltb}
use Rattle.std.proofs.lemmas.Option.{same_Some}
use Rattle.basil_types.specs.declared.party.Decision.{Decision}
use Rattle.basil_types.specs.Transaction.{TransactionValue, id}
use Rattle.basil_types.specs.Words.{SignedWords}
use Rattle.certificates.specs.Refusals.{decision_of}
use Rattle.frame_views.specs.Values.{Writeback}
use Rattle.node_steps.specs.Pens.{PenValue}
use Rattle.node_steps.specs.Refusing.{unless, unless_refused}
use Rattle.txn_table.specs.declared.released.Home.{Home}
use Rattle.txn_table.specs.declared.released.Supposed.{Supposed}
use Rattle.txn_table.specs.Entries.{EntryValue, voted}
use Rattle.txn_table.specs.Laws.{IdsTellPlaces, ReleasedAscend}
use Rattle.txn_table.specs.Released.{released, released_vote}
use Rattle.txn_table.specs.Tables.{id_of}
use Rattle.replica_core.specs.Answers.{answer_kind, answer_read_frame}
use Rattle.replica_core.specs.declared.refusal.Refusal.{Refusal}
use Rattle.replica_core.specs.declared.refusal.Refusal.TheVariants.{Exhausted}
use Rattle.replica_core.specs.Replicas.{ReplicaSelf, Done, quiet}
use Rattle.replica_core.specs.Signing.{exhausted, signature, vote_words}
use Rattle.replica_core.specs.Writebacks.{end_unless_ended, end_with, outcome_done, release_all, release_entry, release_one, releases}
use Rattle.replica_core.specs.Writebacks.{with_outcome}
use Rattle.replica_laws.specs.Steps.{Grows}
use Rattle.replica_laws.specs.Voting.{IsAmong, ReleasedVoteAtOnce}
use Rattle.replica_laws.proofs.Growing.{IsOpen, grows_changed, keeps_voted}
use Rattle.replica_laws.proofs.Releasing.{AreOpen, grows_outcome, known_end, open_other}

-- ---- members

abbrev Holds : List (ℕ × Decision) → ℕ × Decision → Type 0
Holds [] r = ⊥
Holds (x ∷ xs) r = (x ≡ r) ⊎ Holds xs r

held_there : (home : Home) (s : Supposed) (all : List EntryValue) (n : ℕ) (es : List EntryValue) (p : ℕ) (e : EntryValue) (d : Decision) →
    slice_get es p ≡ Some e → released_vote home s all (n + p) e ≡ Some d →
    Holds (filter_map (λ x. option_map (λ vote. (x.0, vote)) (released_vote home s all x.0 x.1)) (enumerate_from n es)) (n + p, d)
held_there home s all n [] p e d h i = absurd cc
held_there home s all n (x ∷ es) zero e d h i =
    let at : n + 0 ≡ n = omega arith in
    let is : released_vote home s all n x ≡ Some d =
    ap (λ (m : ℕ). released_vote home s all m x) (sym at) ∙ ap (released_vote home s all (n + 0)) (same_Some _ _ h) ∙ i in
    let rest = filter_map (λ x. option_map (λ vote. (x.0, vote)) (released_vote home s all x.0 x.1)) (enumerate_from (n + 1) es) in
    let listed : cons_option (option_map (λ vote. (n, vote)) (released_vote home s all n x)) rest ≡ (n, d) ∷ rest =
    ap (λ o. cons_option (option_map (λ vote. (n, vote)) o) rest) is in
    subst (λ l. Holds l (n + 0, d)) (sym listed) (inl (ap (λ (m : ℕ). (m, d)) (sym at)))
held_there home s all n (x ∷ es) (suc p) e d h i =
    let at : n + suc p ≡ n + 1 + p = omega arith in
    let rest = filter_map (λ x. option_map (λ vote. (x.0, vote)) (released_vote home s all x.0 x.1)) (enumerate_from (n + 1) es) in
    let more : Holds rest (n + 1 + p, d) =
    held_there home s all (n + 1) es p e d h (ap (λ (m : ℕ). released_vote home s all m e) (sym at) ∙ i) in
    by (option_map (λ vote. (n, vote)) (released_vote home s all n x)) rest (subst (λ (m : ℕ). Holds rest (m, d)) (sym at) more)
  where
    by : (o : Option (ℕ × Decision)) (rest : List (ℕ × Decision)) → Holds rest (n + suc p, d) → Holds (cons_option o rest) (n + suc p, d)
    by None rest m = m
    by (Some r) rest m = inr m

among_before : (w : SignedWords) (xs ys : List SignedWords) → IsAmong w xs → IsAmong w (xs ++ ys)
among_before w [] ys h = absurd h
among_before w (x ∷ xs) ys (inl e) = inl e
among_before w (x ∷ xs) ys (inr r) = inr (among_before w xs ys r)

among_last : (w : SignedWords) (xs : List SignedWords) → IsAmong w (xs ++ w ∷ [])
among_last w [] = inl refl
among_last w (x ∷ xs) = inr (among_last w xs)

-- ---- releases

module _ (me : ReplicaSelf) where
  one_stays : (w : SignedWords) (r : ℕ × Decision) (done : Done) → IsAmong w done.signed → IsAmong w (release_one me r done).signed
  one_stays w r done h = by (slice_get done.book.entries r.0)
    where
      by : (o : Option EntryValue) → IsAmong w (option_map_or (release_entry me r.0 r.1 done) o done).signed
      by None = h
      by (Some e) = among_before w done.signed _ h

  all_stay : (w : SignedWords) (vs : List (ℕ × Decision)) (done : Done) → IsAmong w done.signed → IsAmong w (release_all me vs done).signed
  all_stay w [] done h = h
  all_stay w (v ∷ vs) done h = all_stay w vs (release_one me v done) (one_stays w v done h)

  signed_each : (least : ℕ) (vs : List (ℕ × Decision)) (done : Done) (p : ℕ) (d : Decision) (e : EntryValue) →
      AreOpen done.book.entries least vs → Holds vs (p, d) → slice_get done.book.entries p ≡ Some e →
      IsAmong (vote_words me (id_of e) d) (release_all me vs done).signed
  signed_each least [] done p d e a h at = absurd h
  signed_each least (v ∷ vs) done p d e a (inl here) at =
      let first = a.1.0 in
      let is : release_one me v done ≡ release_entry me v.0 v.1 done first =
      ap (λ o. option_map_or (release_entry me v.0 v.1 done) o done) a.1.1 in
      let same : first ≡ e = same_Some _ _ (sym a.1.1 ∙ ap (λ (r : ℕ × Decision). slice_get done.book.entries r.0) here ∙ at) in
      let words : vote_words me (id_of first) v.1 ≡ vote_words me (id_of e) d =
      ap (λ (x : EntryValue). vote_words me (id_of x) v.1) same ∙ ap (λ (r : ℕ × Decision). vote_words me (id_of e) r.1) here in
      all_stay _ vs (release_one me v done)
      (subst (λ (x : Done). IsAmong (vote_words me (id_of e) d) x.signed) (sym is)
      (subst (λ (w : SignedWords). IsAmong w (done.signed ++ vote_words me (id_of first) v.1 ∷ [])) words
      (among_last (vote_words me (id_of first) v.1) done.signed)))
  signed_each least (v ∷ vs) done p d e a (inr rest) at =
      let first = a.1.0 in
      let next = release_entry me v.0 v.1 done first in
      let is : release_one me v done ≡ next = ap (λ o. option_map_or (release_entry me v.0 v.1 done) o done) a.1.1 in
      let given = signature me done.book.pen (vote_words me (id_of first) v.1) in
      let grows : Grows done.book.entries next.book.entries = grows_changed (voted v.1 given None) v.0 done.book.entries
      (λ x i. keeps_voted v.1 given None x (subst IsOpen (same_Some _ _ (sym a.1.1 ∙ i)) a.1.2)) in
      let found = grows p e at in
      let more = signed_each (v.0 + 1) vs next p d found.0
      (open_other (voted v.1 given None) v.0 done.book.entries (v.0 + 1) vs (omega arith) a.2) rest found.1 in
      subst (λ (x : Done). IsAmong (vote_words me (id_of e) d) (release_all me vs x).signed) (sym is)
      (subst (λ (t : TransactionValue). IsAmong (vote_words me (id t) d) (release_all me vs next).signed) found.2.text more)

can_sign : (n : ℕ) (pen : PenValue) → n ≤ pen.left → exhausted n pen ≡ None
can_sign n pen h = ap (λ (b : Bool). cond b (Some (Exhausted pen.left)) None) (le-ltb pen.left n h)

module _ (laws : IdsTellPlaces) (ascend : ReleasedAscend) where
  pub released_at_once : ReleasedVoteAtOnce
  released_at_once me now from book frame m place p e d read passed none there at vote left =
      let t = m.transaction in
      let c = m.certificate in
      let o = decision_of c.body in
      let s : Supposed = record { place = place; outcome = o } in
      let votes = released me.home s book.entries in
      let start = quiet (with_outcome book t o c) in
      let done = outcome_done me book t o c votes in
      let found = grows_outcome laws ascend me book t o c none p e at in
      let zero_on : 0 + p ≡ p = omega arith in
      let held : Holds votes (p, d) = subst (λ (n : ℕ). Holds votes (n, d)) zero_on
      (held_there me.home s book.entries 0 book.entries p e d at
      (ap (λ (n : ℕ). released_vote me.home s book.entries n e) zero_on ∙ vote)) in
      let signs = signed_each me 0 votes start p d found.0 (known_end laws ascend me book t c none o place there) held found.1 in (
        done,
        ap (answer_read_frame me now from book) read
            ∙ ap (λ (o : Option Refusal). unless_refused o (answer_kind me now from book (Writeback m))) passed
            ∙ ap (end_unless_ended me book t c) none
            ∙ ap (λ q. end_with me book t o c (releases me book.entries q o)) there
            ∙ ap (λ q. unless q done) (can_sign (length votes) book.pen left),
        subst (λ (u : TransactionValue). IsAmong (vote_words me (id u) d) done.signed) found.2.text signs,
      )
