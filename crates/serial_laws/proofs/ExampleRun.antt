-- The run of the example.
use Rattle.std.proofs.Common.{◌≡◌, ℕ, Bool, true, false, cond, inl, inr, List, [], ◌∷◌}
use Rattle.std.proofs.Common.{Option, Some, None, refl, ap, sym, ◌∙◌, subst, arith}
use Rattle.std.specs.Prelude.{◌==◌, ◌||◌}
use Rattle.std.specs.List.{Contains}
use Rattle.std.specs.Str.{bytes_eq}
use Rattle.std.proofs.lemmas.Bool.{cases_Bool, eqb-true, false_from_ne_true, or_cases}
use Rattle.std.proofs.lemmas.Slice.Eq.{bytes_eq-Decides}
use Rattle.basil_types.specs.declared.transaction.parts.ReadPart.{ReadPart}
use Rattle.basil_types.specs.Transaction.{TransactionValue, id, version_of}
use Rattle.basil_types.specs.Version.{genesis}
use Rattle.txn_meta.specs.Form.{form_fault}
use Rattle.txn_meta.specs.Places.{involves}
use Rattle.quorum_laws.specs.Sets.{Quorum}
use Rattle.basil_types.specs.declared.replayed.Latest.{Latest}
use Rattle.agreement_laws.specs.Words.{Id, same_id, Commit, Word, Vote}
use Rattle.agreement_laws.specs.Certificates.{Says, CanCommit}
use Rattle.agreement_laws.specs.Replicas.{is_held, Votes, Waits, Ends}
use Rattle.agreement_laws.specs.Runs.{signed_of}
use Rattle.serial_laws.specs.Bases.{IsText, setting_of}
use Rattle.txn_meta.specs.Conflicts.{conflict_in}
use Rattle.serial_laws.specs.Dependencies.{depends_on}
use Rattle.serial_laws.specs.Examples.{key_a, key_b, first, second, third, AreApart, basis, does, example, all, AreReached, ReadsAreReached}
use Rattle.serial_laws.specs.Committed.{IsShown}
use Rattle.basil_types.specs.Latest.{leaves}
use Rattle.serial_laws.specs.Reads.{IsTaken}
use Rattle.serial_laws.specs.Runs.{State, Certifies, Forms, happens, run, AreLawful, IsLawful, start}
use Rattle.basil_types.proofs.MemberLaws.{in_none, in_head, in_tail, in_cases}
use Rattle.basil_types.proofs.VersionLaws.{below_itself}

itself : (x : Id) → same_id x x ≡ true
itself x = (bytes_eq-Decides x x).1 refl

turned : (x y : Id) → same_id x y ≡ false → same_id y x ≡ false
turned x y h = false_from_ne_true (same_id y x) (λ k.
    let e : y ≡ x = (bytes_eq-Decides y x).0 k in
    let impossible : true ≡ false = sym ((bytes_eq-Decides x y).1 (sym e)) ∙ h in cc)

module _ (apart : AreApart) where
  e11 : same_id (id first) (id first) ≡ true
  e11 = itself (id first)

  e22 : same_id (id second) (id second) ≡ true
  e22 = itself (id second)

  e33 : same_id (id third) (id third) ≡ true
  e33 = itself (id third)

  e21 : same_id (id second) (id first) ≡ false
  e21 = apart.second_first

  e12 : same_id (id first) (id second) ≡ false
  e12 = turned (id second) (id first) e21

  e31 : same_id (id third) (id first) ≡ false
  e31 = apart.third_first

  e13 : same_id (id first) (id third) ≡ false
  e13 = turned (id third) (id first) e31

  e32 : same_id (id third) (id second) ≡ false
  e32 = apart.third_second

  e23 : same_id (id second) (id third) ≡ false
  e23 = turned (id third) (id second) e32

  text_first : IsText basis first
  text_first = rw e11 refl

  text_second : IsText basis second
  text_second = rw (e21, e22) refl

  text_third : IsText basis third
  text_third = rw (e31, e32) refl

  abbrev s1 : State
  s1 = happens start (Forms (id first) (λ _. None))

  abbrev s2 : State
  s2 = happens s1 (does (id first) (Votes Commit))

  abbrev s3 : State
  s3 = happens s2 (Forms (id second) (λ _. leaves first key_a))

  abbrev s4 : State
  s4 = happens s3 (does (id second) Waits)

  abbrev s5 : State
  s5 = happens s4 (Certifies (id first))

  abbrev s6 : State
  s6 = happens s5 (does (id first) (Ends Commit))

  abbrev s7 : State
  s7 = happens s6 (does (id second) (Votes Commit))

  abbrev s8 : State
  s8 = happens s7 (Certifies (id second))

  step1 : IsLawful basis start (Forms (id first) (λ _. None))
  step1 = λ _ r i. absurd (in_none r (subst (λ (z : TransactionValue). Contains z.reads r) text_first i))

  no_dependency : (x y : Id) (t : TransactionValue) → basis.text x ≡ t → depends_on basis.numbers 0 t y ≡ false →
      depends_on basis.numbers 0 (basis.text x) y ≡ true → ⊥
  no_dependency x y t e f h = let impossible : true ≡ false = sym h ∙ ap (λ z. depends_on basis.numbers 0 z y) e ∙ f in cc

  step2 : IsLawful basis s1 (does (id first) (Votes Commit))
  step2 = (
    (refl, (refl, λ y h. absurd (no_dependency (id first) y first text_first refl h), inr (refl, λ y h. refl))),
    (rw e11 refl, ap form_fault text_first),
  )

  step3 : IsLawful basis s2 (Forms (id second) (λ _. leaves first key_a))
  step3 = λ _ r i. elim (in_cases _ [] r (subst (λ (z : TransactionValue). Contains z.reads r) text_second i)) [
    | inl e ↦ subst (λ (z : ReadPart). IsTaken basis s2.committed z (leaves first key_a)) e (first, text_first, refl, refl, inr refl)
    | inr k ↦ absurd (in_none r k)
  ]

  -- the second read what the first wrote, so they don't conflict
  no_conflict_21 : conflict_in basis.numbers 0 second first ≡ false
  no_conflict_21 = rw (below_itself (version_of first)) refl

  clear_of : (x y : Id) (t u : TransactionValue) → basis.text x ≡ t → basis.text y ≡ u → conflict_in basis.numbers 0 t u ≡ false →
      conflict_in basis.numbers 0 (basis.text x) (basis.text y) ≡ true → ⊥
  clear_of x y t u e f n h =
      let impossible : true ≡ false = sym h ∙ (λ j. conflict_in basis.numbers 0 (e j) (f j)) ∙ n in cc

  abbrev IsClearAt : State → Id → Id → Type 0
  IsClearAt st x y =
      conflict_in basis.numbers 0 (basis.text x) (basis.text y) ≡ true →
      is_held ((st.inner.nodes 0 0).book y).vote ((st.inner.nodes 0 0).book y).outcome ≡ false

  -- an id is one of these two, or neither
  by_two : (P : Id → Type 0) → P (id first) → P (id second) →
      ((y : Id) → same_id y (id first) ≡ false → same_id y (id second) ≡ false → P y) → (y : Id) → P y
  by_two P f s n y = elim (cases_Bool (same_id y (id first))) [
    | inl e ↦ subst P (sym ((bytes_eq-Decides y (id first)).0 e)) f
    | inr d ↦ elim (cases_Bool (same_id y (id second))) [
      | inl e ↦ subst P (sym ((bytes_eq-Decides y (id second)).0 e)) s
      | inr e ↦ n y d e
    ]
  ]

  clear4 : (y : Id) → IsClearAt s3 (id second) y
  clear4 = by_two (IsClearAt s3 (id second))
      (λ h. absurd (clear_of (id second) (id first) second first text_second text_first no_conflict_21 h))
      (λ _. rw e21 refl)
      (λ y d e _. rw d refl)

  step4 : IsLawful basis s3 (does (id second) Waits)
  step4 = ((refl, (rw e21 refl, rw e21 refl, clear4)), tt)

  involved_zero : (x : Id) (t : TransactionValue) (s : ℕ) → basis.text x ≡ t → (involves basis.numbers t s ≡ true → s ≡ 0) →
      involves basis.numbers (basis.text x) s ≡ true → s ≡ 0
  involved_zero x t s e f h = f (ap (λ z. involves basis.numbers z s) (sym e) ∙ h)

  zero_from : (s : ℕ) → (0 == s) ≡ true → s ≡ 0
  zero_from s h = sym (eqb-true 0 s h)

  either_zero : (s : ℕ) (a c : Bool) → (a ≡ true → s ≡ 0) → (c ≡ true → s ≡ 0) → (a || c) ≡ true → s ≡ 0
  either_zero s a c f g h = elim (or_cases a c h) [ inl k ↦ f k | inr k ↦ g k ]

  abbrev IsVoted : State → Id → ℕ → ℕ → Type 0
  IsVoted st x s r = Says (setting_of basis) (signed_of st.inner) s r (Vote s r x Commit)

  one_vote : (st : State) (x : Id) → Contains (signed_of st.inner 0 0) (Vote 0 0 x Commit) → (s : ℕ) → s ≡ 0 →
      Quorum 1 1 (IsVoted st x s)
  one_vote st x h s e =
      let zeroth : Quorum 1 1 (IsVoted st x 0) = record {
        who = λ _. true;
        many = omega arith;
        each = λ r l _. let z : 0 ≡ r = omega (arith, l) in subst (IsVoted st x 0) z (inr h);
      } in
      subst (λ z. Quorum 1 1 (IsVoted st x z)) (sym e) zeroth

  can : (st : State) (x : Id) (t : TransactionValue) → basis.text x ≡ t → ((s : ℕ) → involves basis.numbers t s ≡ true → s ≡ 0) →
      Contains (signed_of st.inner 0 0) (Vote 0 0 x Commit) → CanCommit (setting_of basis) (signed_of st.inner) x
  can st x t e f h = inl (λ s i. one_vote st x h s (involved_zero x t s e (f s) i))

  last_zero : (s : ℕ) → ((0 == s) || false) ≡ true → s ≡ 0
  last_zero s h = either_zero s (0 == s) false (zero_from s) (λ k. cc) h

  first_in_zero : (s : ℕ) → involves basis.numbers first s ≡ true → s ≡ 0
  first_in_zero s h = either_zero s (0 == s) false (zero_from s) (λ k. cc) h

  second_in_zero : (s : ℕ) → involves basis.numbers second s ≡ true → s ≡ 0
  second_in_zero s h = either_zero s ((0 == s) || false) ((0 == s) || false) (last_zero s) (last_zero s) h

  third_in_zero : (s : ℕ) → involves basis.numbers third s ≡ true → s ≡ 0
  third_in_zero s h =
      either_zero s ((0 == s) || ((0 == s) || false)) false
      (either_zero s (0 == s) ((0 == s) || false) (zero_from s) (last_zero s)) (λ k. cc) h

  abbrev vote : TransactionValue → Word
  vote t = Vote 0 0 (id t) Commit

  can5 : CanCommit (setting_of basis) (signed_of s4.inner) (id first)
  can5 = can s4 (id first) first text_first first_in_zero (in_head (vote first) [])

  step5 : IsLawful basis s4 (Certifies (id first))
  step5 = can5

  step6 : IsLawful basis s5 (does (id first) (Ends Commit))
  step6 = ((refl, (rw (e12, e11) refl, can s5 (id first) first text_first first_in_zero (in_head (vote first) []))), rw e11 refl)

  needs7 : (y : Id) → depends_on basis.numbers 0 (basis.text (id second)) y ≡ true →
      ((s6.inner.nodes 0 0).book y).outcome ≡ Some Commit
  needs7 y h =
      let k : depends_on basis.numbers 0 second y ≡ true = ap (λ z. depends_on basis.numbers 0 z y) (sym text_second) ∙ h in
      let e : same_id (id first) y ≡ true = elim (or_cases (same_id (id first) y) false k) [ inl i ↦ i | inr i ↦ cc ] in
      let P : Id → Type 0 = λ z. ((s6.inner.nodes 0 0).book z).outcome ≡ Some Commit in
      subst P ((bytes_eq-Decides (id first) y).0 e) (rw e11 refl)

  step7 : IsLawful basis s6 (does (id second) (Votes Commit))
  step7 = ((refl, (rw (e21, e22) refl, needs7, inl (rw (e21, e22) refl))), (rw e22 refl, ap form_fault text_second))

  step8 : IsLawful basis s7 (Certifies (id second))
  step8 =
      can s7 (id second) second text_second second_in_zero
      (in_tail (vote first) (vote second ∷ []) (vote second) (in_head (vote second) []))

  abbrev given3 : (key : List ℕ) → Option Latest
  given3 key = cond (bytes_eq key key_a) (leaves second key_a) None

  abbrev read_a : ReadPart
  read_a = record { key = key_a; version = version_of second; dependency = false }

  abbrev read_b : ReadPart
  read_b = record { key = key_b; version = genesis; dependency = false }

  step9 : IsLawful basis s8 (Forms (id third) given3)
  step9 = λ _ r i. elim (in_cases read_a (read_b ∷ []) r (subst (λ (z : TransactionValue). Contains z.reads r) text_third i)) [
    | inl e ↦ subst (λ (z : ReadPart). IsTaken basis s8.committed z (given3 z.key)) e (second, text_second, refl, refl, inl (rw e22 refl))
    | inr k ↦ elim (in_cases read_b [] r k) [
      | inl e ↦ subst (λ (z : ReadPart). IsTaken basis s8.committed z (given3 z.key)) e (refl {a = genesis})
      | inr j ↦ absurd (in_none r j)
    ]
  ]

  abbrev s9 : State
  s9 = happens s8 (Forms (id third) given3)

  abbrev s10 : State
  s10 = happens s9 (does (id third) (Votes Commit))

  no_conflict_31 : conflict_in basis.numbers 0 third first ≡ false
  no_conflict_31 = refl

  no_conflict_32 : conflict_in basis.numbers 0 third second ≡ false
  no_conflict_32 = rw (below_itself (version_of second)) refl

  clear10 : (y : Id) → IsClearAt s9 (id third) y
  clear10 = by_two (IsClearAt s9 (id third))
      (λ h. absurd (clear_of (id third) (id first) third first text_third text_first no_conflict_31 h))
      (λ h. absurd (clear_of (id third) (id second) third second text_third text_second no_conflict_32 h))
      (λ y d e _. rw (d, e) refl)

  step10 : IsLawful basis s9 (does (id third) (Votes Commit))
  step10 = (
    (
      refl,
      (
        rw (e31, e32) refl,
        λ y h. absurd (no_dependency (id third) y third text_third refl h),
        inr (rw (e31, e32) refl, clear10),
      ),
    ),
    (rw e33 refl, ap form_fault text_third),
  )

  step11 : IsLawful basis s10 (Certifies (id third))
  step11 =
      can s10 (id third) third text_third third_in_zero
      (in_tail (vote first) (vote second ∷ vote third ∷ []) (vote third)
      (in_tail (vote second) (vote third ∷ []) (vote third) (in_head (vote third) [])))

  lawful : AreLawful basis example start
  lawful = (step1, (step2, (step3, (step4, (step5, (step6, (step7, (step8, (step9, (step10, (step11, tt)))))))))))

  abbrev last : State
  last = run example start

  shown_third : IsShown basis last third
  shown_third = record { text = text_third; shown = rw e33 refl }

  shown_first : IsShown basis last first
  shown_first = record { text = text_first; shown = rw (e13, e12, e11) refl }

  shown_second : IsShown basis last second
  shown_second = record { text = text_second; shown = rw (e23, e22) refl }

  -- what was shown is one of them
  shown_all : (t : TransactionValue) → IsShown basis last t → Contains all t
  shown_all t h = by (same_id (id t) (id first)) (same_id (id t) (id second)) h.text
    where
      by : (c d : Bool) → cond c first (cond d second third) ≡ t → Contains all t
      by true d e = subst (Contains all) e (in_tail third (first ∷ second ∷ []) first (in_head first (second ∷ [])))
      by false true e =
          subst (Contains all) e
          (in_tail third (first ∷ second ∷ []) second (in_tail first (second ∷ []) second (in_head second [])))
      by false false e = subst (Contains all) e (in_head third (first ∷ second ∷ []))

  reached : AreReached
  reached = record {
    sane = λ s. omega arith;
    lawful = lawful;
    shown = record {
      only = λ t h. elim (in_cases third (first ∷ second ∷ []) t h) [
        | inl e ↦ subst (IsShown basis last) e shown_third
        | inr k ↦ elim (in_cases first (second ∷ []) t k) [
          | inl e ↦ subst (IsShown basis last) e shown_first
          | inr j ↦ elim (in_cases second [] t j) [
            | inl e ↦ subst (IsShown basis last) e shown_second
            | inr n ↦ absurd (in_none t n)
          ]
        ]
      ];
      every = shown_all;
    };
    deleted = rw e33 refl;
    absent = rw e33 refl;
  }

pub reads_are_reached : ReadsAreReached
reads_are_reached apart = reached apart
