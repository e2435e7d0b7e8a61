-- The votes that an outcome releases.
use Rattle.std.proofs.Common.{◌≡◌, ℕ, ◌<◌, Bool, true, false, cond, inl, List, length}
use Rattle.std.proofs.Common.{get_or, Option, Some, None, refl, ap, sym, ◌∙◌, subst}
use Rattle.std.proofs.Common.{arith}
use Rattle.std.specs.Prelude.{◌&&◌, ◌==◌, slice_get, is_none, option_map}
use Rattle.std.specs.List.{Contains, enumerate_from, IsDistinct}
use Rattle.std.specs.Option.{option_and_then}
use Rattle.std.specs.Str.{bytes_eq}
use Rattle.std.proofs.lemmas.Bool.{and_parts, eq-eqb, eqb-true}
use Rattle.std.proofs.lemmas.Option.{slice_get_within, get_or_from_slice_get, slice_get-map}
use Rattle.std.proofs.lemmas.Slice.Eq.{bytes_eq-Decides}
use Rattle.basil_types.specs.declared.party.Decision as parties
use Rattle.basil_types.specs.declared.party.Decision.TheVariants as declared
use Rattle.basil_types.specs.declared.transaction.parts.ReadPart.{ReadPart}
use Rattle.basil_types.specs.Transaction.{id}
use Rattle.basil_types.proofs.MemberLaws.{filter_in, hit_of}
use Rattle.txn_table.specs.Entries as entries
use Rattle.txn_table.specs.Entries.{EntryValue, decision_of, is_waiting}
use Rattle.txn_table.specs.Released as releases
use Rattle.txn_table.specs.Released.{is_dependency, dependencies, outcome_read, is_committed, depends, some_aborted, all_committed}
use Rattle.txn_table.specs.Released.{vote_after, released_vote, released}
use Rattle.txn_table.specs.Tables.{id_of, ids_of, place_of, decision_at}
use Rattle.txn_table.specs.declared.released.Home.{Home}
use Rattle.txn_table.specs.declared.released.Supposed.{Supposed}
use Rattle.txn_table.proofs.Places.{absent, one_place, entry_placed}
use Rattle.agreement_laws.specs.Words.{Id, same_id, Commit}
use Rattle.agreement_laws.specs.Certificates.{Signed}
use Rattle.agreement_laws.specs.Replicas.{Waiting, LogCell, Book, Votes, Ends, after, May}
use Rattle.agreement_laws.proofs.Puts.{put_id_cases}
use Rattle.serial_laws.specs.Bases.{Basis, IsText, setting_of}
use Rattle.serial_laws.specs.Dependencies.{is_dependency_on, depends_on}
use Rattle.law_joins.specs.Books.{state_of, vote_at, outcome_at, book_of, AreTexts, ended, IsLike, IsReleasedWell, ReleasesAreSound}
use Rattle.law_joins.specs.Shown as shown
use Rattle.law_joins.proofs.Listing.{numbered, mapped, all_pass}

-- ---- the released vote

record IsReleased (home : Home) (s : Supposed) (es : List EntryValue) (place : ℕ) (e : EntryValue) (vote : parties.Decision) : Type 0 where
  pub waiting : is_waiting e.vote ≡ true
  pub unended : is_none (releases.outcome_at s es place) ≡ true
  pub voted : vote_after s es (dependencies home e.transaction) ≡ Some vote

of_vote : (home : Home) (s : Supposed) (es : List EntryValue) (place : ℕ) (e : EntryValue) (vote : parties.Decision) →
    released_vote home s es place e ≡ Some vote → IsReleased home s es place e vote
of_vote home s es place e vote h = by (is_waiting e.vote) (is_none (releases.outcome_at s es place)) refl refl h
  where
    by : (a c : Bool) → is_waiting e.vote ≡ a → is_none (releases.outcome_at s es place) ≡ c →
        cond (a && c) (vote_after s es (dependencies home e.transaction)) None ≡ Some vote → IsReleased home s es place e vote
    by true true p q k = record { waiting = p; unended = q; voted = k }
    by true false p q k = absurd cc
    by false c p q k = absurd cc

committed_all : (s : Supposed) (es : List EntryValue) (rs : List ReadPart) → vote_after s es rs ≡ Some declared.Commit →
    all_committed s es rs ≡ true
committed_all s es rs h = by (depends s es rs) (some_aborted s es rs) (all_committed s es rs) refl h
  where
    by : (d a c : Bool) → all_committed s es rs ≡ c →
        cond d (cond a (Some declared.Abort) (cond c (Some declared.Commit) None)) None ≡ Some declared.Commit →
        all_committed s es rs ≡ true
    by true true c e k = absurd (let f : declared.Abort ≡ declared.Commit = cc in cc)
    by true false true e k = e
    by true false false e k = absurd cc
    by false a c e k = absurd cc

waits : (v : entries.VoteValue) → is_waiting v ≡ true → state_of v ≡ Waiting
waits entries.Unvoted h = absurd cc
waits (entries.Waiting askers) h = refl
waits (entries.Voted vote signature proof) h = absurd cc

committed : (o : Option parties.Decision) → is_committed o ≡ true → o ≡ Some declared.Commit
committed None h = absurd cc
committed (Some declared.Commit) h = refl
committed (Some declared.Abort) h = absurd cc

no_outcome : (o : Option parties.Decision) → is_none o ≡ true → o ≡ None
no_outcome None h = refl
no_outcome (Some d) h = absurd cc

module _ (b : Basis) (home : Home) (s : Supposed) (es : List EntryValue) (cells : Id → Option LogCell) (y : Id)
    (same : b.numbers ≡ home.cluster) (distinct : IsDistinct bytes_eq (ids_of es)) (texts : AreTexts b es)
    (there : place_of es y ≡ Some s.place) where
  abbrev B : Book
  B = book_of es cells

  abbrev after_y : Book
  after_y = ended es cells y s.outcome

  -- an entry stands at the place of its id
  placed : (i : ℕ) (e : EntryValue) → slice_get es i ≡ Some e → place_of es (id e.transaction) ≡ Some i
  placed i e h = by (place_of es (id e.transaction)) refl
    where
      got : slice_get (ids_of es) i ≡ Some (id e.transaction)
      got = slice_get-map id_of es i ∙ ap (option_map id_of) h

      within : i < length (ids_of es)
      within = slice_get_within (ids_of es) i (id e.transaction) got

      is : get_or (ids_of es) i (id e.transaction) ≡ id e.transaction
      is = get_or_from_slice_get (ids_of es) i (id e.transaction) (id e.transaction) got

      by : (o : Option ℕ) → place_of es (id e.transaction) ≡ o → place_of es (id e.transaction) ≡ Some i
      by None p = absurd (absent (ids_of es) (id e.transaction) p i (id e.transaction) within is)
      by (Some j) p = p ∙ ap Some (sym (one_place (ids_of es) (id e.transaction) j distinct p i (id e.transaction) within is))

  -- two ids of one place are one
  one_id : (x z : Id) (i : ℕ) → place_of es x ≡ Some i → place_of es z ≡ Some i → x ≡ z
  one_id x z i p q = let e : Some x ≡ Some z = sym (entry_placed es x i p) ∙ entry_placed es z i q in cc

  -- the supposed outcomes are those of the book
  outcome_there : (z : Id) (j : ℕ) → place_of es z ≡ Some j →
      (after_y z).outcome ≡ option_map shown.decision_of (releases.outcome_at s es j)
  outcome_there z j p = by (same_id z y) refl (j == s.place) refl
    where
      by : (c : Bool) → same_id z y ≡ c → (k : Bool) → (j == s.place) ≡ k →
          (cond c (after (Ends (shown.decision_of s.outcome)) (B y)) (B z)).outcome
          ≡ option_map shown.decision_of (cond k (Some s.outcome) (decision_at es j))
      by true e true f = refl
      by true e false f =
          let q : Some j ≡ Some s.place = sym p ∙ ap (place_of es) ((bytes_eq-Decides z y).0 e) ∙ there in
          let i : j ≡ s.place = cc in
          absurd (let impossible : true ≡ false = sym (eq-eqb j s.place i) ∙ f in cc)
      by false e true f =
          let i : j ≡ s.place = eqb-true j s.place f in
          let q : z ≡ y = one_id z y s.place (p ∙ ap Some i) there in
          absurd (let impossible : true ≡ false = sym ((bytes_eq-Decides z y).1 q) ∙ e in cc)
      by false e false f = ap (λ o. outcome_at (option_and_then (slice_get es) o)) p ∙ own (slice_get es j)
        where
          own : (o : Option EntryValue) → outcome_at o ≡ option_map shown.decision_of (option_and_then decision_of o)
          own None = refl
          own (Some e) = refl

  vote_there : (z : Id) → (after_y z).vote ≡ (B z).vote
  vote_there =
      put_id_cases (λ z t. t.vote ≡ (B z).vote) B y (after (Ends (shown.decision_of s.outcome)) (B y)) refl (λ z _. refl)

  abbrev IsLawful : EntryValue → parties.Decision → Type 0
  IsLawful e vote =
      (signed : Signed) (aborted : Id → Bool) (other : Book) → IsLike after_y other (id e.transaction) →
      May (setting_of b) signed aborted home.shard other (id e.transaction) (Votes (shown.decision_of vote))

  lawful : (place : ℕ) (e : EntryValue) (vote : parties.Decision) → slice_get es place ≡ Some e → IsReleased home s es place e vote →
      IsLawful e vote
  lawful place e vote h r signed aborted other like = by vote r.voted
    where
      at : place_of es (id e.transaction) ≡ Some place
      at = placed place e h

      unended : (other (id e.transaction)).outcome ≡ None
      unended =
          like.outcomes (id e.transaction) ∙ outcome_there (id e.transaction) place at
          ∙ ap (option_map shown.decision_of) (no_outcome (releases.outcome_at s es place) r.unended)

      waiting : (other (id e.transaction)).vote ≡ Waiting
      waiting =
          like.vote ∙ vote_there (id e.transaction) ∙ ap (λ o. vote_at (option_and_then (slice_get es) o)) at
          ∙ ap vote_at h ∙ waits e.vote r.waiting

      text : IsText b e.transaction
      text = texts e (place, slice_get_within es place e h, get_or_from_slice_get es place e e h)

      -- each dependency has a place, and its supposed outcome is commit
      found : (v : Id) (o : Option ℕ) → place_of es v ≡ o → option_and_then (releases.outcome_at s es) o ≡ Some declared.Commit →
          (after_y v).outcome ≡ Some Commit
      found v None p c = absurd cc
      found v (Some j) p c = outcome_there v j p ∙ ap (option_map shown.decision_of) c

      needed : all_committed s es (dependencies home e.transaction) ≡ true → (z : Id) →
          depends_on b.numbers home.shard (b.text (id e.transaction)) z ≡ true → (other z).outcome ≡ Some Commit
      needed all z d =
          let k : depends_on home.cluster home.shard e.transaction z ≡ true =
          (λ j. depends_on (sym same j) home.shard (sym text j) z) ∙ d in
          let q = hit_of (is_dependency_on home.cluster home.shard z) (e.transaction).reads k in
          let v : Id = (q.0).version.id in
          let p = and_parts (is_dependency home q.0) (bytes_eq v z) q.2 in
          let i = filter_in (is_dependency home) (e.transaction).reads q.0 q.1 p.0 in
          let passes = all_pass (λ (w : ReadPart). is_committed (outcome_read s es w)) (dependencies home e.transaction) all q.0 i in
          let c = committed (outcome_read s es q.0) passes in
          let P : Id → Type 0 = λ w. (other w).outcome ≡ Some Commit in
          subst P ((bytes_eq-Decides v z).0 p.1) (like.outcomes v ∙ found v (place_of es v) refl c)

      by : (d : parties.Decision) → vote_after s es (dependencies home e.transaction) ≡ Some d →
          May (setting_of b) signed aborted home.shard other (id e.transaction) (Votes (shown.decision_of d))
      by declared.Commit k = (unended, needed (committed_all s es (dependencies home e.transaction) k), inl waiting)
      by declared.Abort k = (unended, inl waiting)

  abbrev Placed : Type 0
  Placed = ℕ × parties.Decision

  well : (place : ℕ) (vote : parties.Decision) → Contains (released home s es) (place, vote) →
      IsReleasedWell b home es after_y place vote
  well place vote h =
      let vote_of : ℕ × EntryValue → Option Placed =
      λ x. option_map {U = Placed} (λ v. (x.0, v)) (released_vote home s es x.0 x.1) in
      let m = mapped vote_of (enumerate_from 0 es) (place, vote) h in
      let n = numbered es 0 m.0 m.1 in
      let e : EntryValue = (m.0).1 in
      let o = named (m.0).0 (released_vote home s es (m.0).0 e) m.2 in
      let p : n.0 ≡ place = omega (arith, n.1, o.0) in
      let G : ℕ → Type 0 = λ k. slice_get es k ≡ Some e in
      let V : ℕ → Type 0 = λ k. released_vote home s es k e ≡ Some vote in
      let stands = subst G p n.2 in
      record {
        entry = e;
        stands = stands;
        lawful = lawful place e vote stands (of_vote home s es place e vote (subst V o.0 o.1));
      }
    where
      named : (i : ℕ) (o : Option parties.Decision) → option_map {U = Placed} (λ v. (i, v)) o ≡ Some (place, vote) →
          (i ≡ place) × (o ≡ Some vote)
      named i None e = absurd cc
      named i (Some v) e =
          let q : (i, v) ≡ (place, vote) = cc in
          (ap (λ (w : Placed). w.0) q, ap (λ (w : Placed). Some w.1) q)

pub releases_are_sound : ReleasesAreSound
releases_are_sound b home s es cells y place vote same distinct texts there h =
    well b home s es cells y same distinct texts there place vote h
