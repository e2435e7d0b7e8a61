-- Which reads are strays, and which of them is the first.
use Rattle.std.proofs.Common.{◌≡◌, ℕ, zero, suc, ◌+◌, ◌⊎◌, inl, inr, Bool, true, false}
use Rattle.std.proofs.Common.{cond, List, [], ◌∷◌, Some, refl, ap, sym, ◌∙◌, subst, arith}
use Rattle.std.specs.Prelude.{filter, flat_map, fold, not, slice_get}
use Rattle.std.specs.Cmp.{IsTotalOrder}
use Rattle.std.specs.List.{Contains, enumerate_from, reduce}
use Rattle.std.specs.Ordering.{is_lt, ordering_reverse}
use Rattle.std.specs.declared.cmp.Ordering.{Ordering}
use Rattle.std.specs.declared.cmp.Ordering.TheVariants.{Less, Equal, Greater}
use Rattle.std.proofs.lemmas.Bool.{cases_Bool}
use Rattle.std.proofs.lemmas.Cmp.{nat_cmp_total, on_total, then_total, tied_itself, alike_right}
use Rattle.std.specs.Cmp.Lexicographic.{nat_list_cmp_total}
use Rattle.std.proofs.lemmas.List.Elements.{Contains-append_right, Contains-append_left, Contains-append_cases}
use Rattle.basil_types.specs.declared.transaction.parts.ReadPart.{ReadPart}
use Rattle.basil_types.specs.declared.version.Version.{Version}
use Rattle.basil_types.specs.Transaction.{TransactionValue, version_of}
use Rattle.basil_types.specs.Version.{same_version}
use Rattle.basil_types.proofs.MemberLaws.{in_none, in_head, in_tail, in_cases, in_filter, filter_in, in_map, map_in}
use Rattle.basil_types.proofs.VersionLaws.{version_total, same_exactly}
use Rattle.serial_audit.specs.Laws.{AllAreRight, IsStray, SerialIsRight, StrayIsFirst}
use Rattle.serial_audit.specs.Strays.{Stray, expected, is_right, stray_of, strays_at, strays, stray_cmp, comes_before, earlier}
use Rattle.serial_audit.specs.Verdicts.{verdict_with}
use Rattle.serial_audit.specs.declared.audit.Verdict.TheVariants as verdict

-- ---- members

module _ {A B : Type 0} (f : A → List B) where
  in_flat : (xs : List A) (y : B) → Contains (flat_map f xs) y → (x : A) × Contains xs x × Contains (f x) y
  in_flat [] y h = absurd (in_none y h)
  in_flat (x ∷ xs) y h = elim (Contains-append_cases (f x) (flat_map f xs) y h) [
    | inl i ↦ (x, in_head x xs, i)
    | inr i ↦ let o = in_flat xs y i in (o.0, in_tail x xs o.0 o.1, o.2)
  ]

  flat_in : (xs : List A) (x : A) (y : B) → Contains xs x → Contains (f x) y → Contains (flat_map f xs) y
  flat_in [] x y h k = absurd (in_none x h)
  flat_in (z ∷ xs) x y h k = elim (in_cases z xs x h) [
    | inl i ↦ Contains-append_left (f z) (flat_map f xs) y (subst (λ w. Contains (f w) y) (sym i) k)
    | inr i ↦ Contains-append_right (f z) (flat_map f xs) y (flat_in xs x y i k)
  ]

module _ {A : Type 0} where
  abbrev IsPlaced : ℕ → List A → ℕ × A → Type 0
  IsPlaced k xs p = (i : ℕ) × (p.0 ≡ k + i) × (slice_get xs i ≡ Some p.1)

  in_places : (xs : List A) (k : ℕ) (p : ℕ × A) → Contains (enumerate_from k xs) p → IsPlaced k xs p
  in_places [] k p h = absurd (in_none p h)
  in_places (x ∷ xs) k p h = elim (in_cases (k, x) (enumerate_from (k + 1) xs) p h) [
    | inl i ↦ subst (IsPlaced k (x ∷ xs)) i (0, omega arith, refl)
    | inr i ↦ let o = in_places xs (k + 1) p i in let e = o.1 in (suc o.0, omega (arith, e), o.2)
  ]

  places_in : (xs : List A) (k i : ℕ) (x : A) → slice_get xs i ≡ Some x → Contains (enumerate_from k xs) (k + i, x)
  places_in [] k i x e = absurd cc
  places_in (y ∷ xs) k zero x e =
      let same : y ≡ x = cc in
      let here : k ≡ k + 0 = omega arith in
      let P : ℕ → Type 0 = λ j. Contains ((k, y) ∷ enumerate_from (k + 1) xs) (j, x) in
      subst P here (subst (λ z. Contains ((k, y) ∷ enumerate_from (k + 1) xs) (k, z)) same (in_head (k, y) (enumerate_from (k + 1) xs)))
  places_in (y ∷ xs) k (suc i) x e =
      let next : (k + 1) + i ≡ k + suc i = omega arith in
      let P : ℕ → Type 0 = λ j. Contains ((k, y) ∷ enumerate_from (k + 1) xs) (j, x) in
      subst P next (in_tail (k, y) (enumerate_from (k + 1) xs) ((k + 1) + i, x) (places_in xs (k + 1) i x e))

  place_of : (xs : List A) (x : A) → Contains xs x → (i : ℕ) × (slice_get xs i ≡ Some x)
  place_of [] x h = absurd (in_none x h)
  place_of (y ∷ xs) x h = elim (in_cases y xs x h) [
    | inl i ↦ (0, ap Some i)
    | inr i ↦ let o = place_of xs x i in (suc o.0, o.1)
  ]

-- ---- strays

module _ (ts : List TransactionValue) where
  abbrev is_wrong : Version → ReadPart → Bool
  is_wrong reader r = not (is_right ts reader r)

  wrong : (reader : Version) (r : ReadPart) → is_wrong reader r ≡ true → r.version ≡ expected ts reader r.key → ⊥
  wrong reader r w e =
      absurd (let impossible : false ≡ true = ap not (sym ((same_exactly r.version (expected ts reader r.key)).1 e)) ∙ w in cc)

  in_strays : (s : Stray) → Contains (strays ts) s → IsStray ts s
  in_strays s h =
      let o = in_flat (strays_at ts) (enumerate_from 0 ts) s h in
      let p = in_places ts 0 o.0 o.1 in
      let t : TransactionValue = (o.0).1 in
      let m = in_map (stray_of ts (version_of t) (o.0).0) (filter (is_wrong (version_of t)) t.reads) s o.2 in
      let f = in_filter (is_wrong (version_of t)) t.reads m.0 m.1 in
      let place = p.1 in
      let at : slice_get ts (o.0).0 ≡ Some t = ap (slice_get ts) (omega (arith, place)) ∙ p.2 in
      subst (IsStray ts) m.2 (record {
        by = t;
        at = at;
        reader = refl;
        read = m.0;
        reads = f.0;
        key = refl;
        found = refl;
        expected = refl;
        stray = wrong (version_of t) m.0 f.1;
      })

  strays_in : (s : Stray) → IsStray ts s → Contains (strays ts) s
  strays_in s h =
      let t = h.by in
      let r = h.read in
      let is : is_wrong (version_of t) r ≡ true = elim (cases_Bool (is_right ts (version_of t) r)) [
        | inl e ↦ absurd (h.stray (sym h.found ∙ (same_exactly r.version (expected ts (version_of t) r.key)).0 e
            ∙ ap (λ v. expected ts v r.key) h.reader ∙ ap (expected ts s.reader) h.key ∙ h.expected))
        | inr e ↦ ap not e
      ] in
      let same : stray_of ts (version_of t) s.place r ≡ s =
      λ i. record {
        reader = h.reader i;
        place = s.place;
        key = h.key i;
        found = h.found i;
        expected = (ap (λ v. expected ts v r.key) h.reader ∙ ap (expected ts s.reader) h.key ∙ h.expected) i;
      } in
      subst (Contains (strays ts)) same
      (flat_in (strays_at ts) (enumerate_from 0 ts) (s.place, t) (stray_of ts (version_of t) s.place r)
      (subst (λ k. Contains (enumerate_from 0 ts) (k, t)) (omega arith) (places_in ts 0 s.place t h.at))
      (map_in (stray_of ts (version_of t) s.place) (filter (is_wrong (version_of t)) t.reads) r
      (filter_in (is_wrong (version_of t)) t.reads r h.reads is)))

-- ---- the order of strays

stray_total : IsTotalOrder stray_cmp
stray_total =
    then_total (on_total (λ (s : Stray). s.reader) version_total)
    (then_total (on_total (λ (s : Stray). s.key) nat_list_cmp_total) (on_total (λ (s : Stray). s.place) nat_cmp_total))

less : (o : Ordering) → is_lt o ≡ true → o ≡ Less
less Less e = refl
less Equal e = absurd cc
less Greater e = absurd cc

before_trans : (a b c : Stray) → comes_before a b ≡ true → comes_before b c ≡ true → comes_before a c ≡ true
before_trans a b c p q = ap is_lt (stray_total.trans a b c (less (stray_cmp a b) p) (less (stray_cmp b c) q))

-- what comes before one that doesn't come behind another comes before that
before_upto : (q x y : Stray) → comes_before y x ≡ false → comes_before q x ≡ true → comes_before q y ≡ true
before_upto q x y h p = by (stray_cmp y x) refl
  where
    by : (o : Ordering) → stray_cmp y x ≡ o → comes_before q y ≡ true
    by Less e = let impossible : true ≡ false = sym (ap is_lt e) ∙ h in absurd cc
    by Equal e = ap is_lt (alike_right stray_total y x q e) ∙ p
    by Greater e = before_trans q x y p (ap is_lt (stray_total.antisymm x y ∙ ap ordering_reverse e))

not_before_trans : (a b c : Stray) → comes_before a b ≡ false → comes_before b c ≡ false → comes_before a c ≡ false
not_before_trans a b c p q = elim (cases_Bool (comes_before a c)) [
  | inl e ↦ absurd (let impossible : true ≡ false = sym (before_upto a c b q e) ∙ p in cc)
  | inr e ↦ e
]

not_before_itself : (a : Stray) → comes_before a a ≡ false
not_before_itself a = ap is_lt (tied_itself stray_total a)

not_both : (a b : Stray) → comes_before a b ≡ true → comes_before b a ≡ false
not_both a b p = elim (cases_Bool (comes_before b a)) [
  | inl e ↦ absurd (let impossible : true ≡ false = sym (before_trans a b a p e) ∙ not_before_itself a in cc)
  | inr e ↦ e
]

abbrev IsFirst : List Stray → Stray → Type 0
IsFirst ss s = Contains ss s × ((u : Stray) → Contains ss u → comes_before u s ≡ false)

-- one of two, before which neither comes
abbrev IsOfTwo : Stray → Stray → Stray → Type 0
IsOfTwo a b s = ((s ≡ a) ⊎ (s ≡ b)) × (comes_before a s ≡ false) × (comes_before b s ≡ false)

one_of_two : (a b : Stray) → IsOfTwo a b (earlier a b)
one_of_two a b = by (comes_before b a) refl
  where
    by : (c : Bool) → comes_before b a ≡ c → IsOfTwo a b (earlier a b)
    by true e = subst (λ c. IsOfTwo a b (cond c b a)) (sym e) (inr refl, not_both b a e, not_before_itself b)
    by false e = subst (λ c. IsOfTwo a b (cond c b a)) (sym e) (inl refl, not_before_itself a, e)

fold_first : (s : Stray) (ss : List Stray) → IsFirst (s ∷ ss) (fold earlier s ss)
fold_first s [] = (
  in_head s [],
  λ u h. elim (in_cases s [] u h) [
    | inl i ↦ subst (λ z. comes_before z s ≡ false) i (not_before_itself s)
    | inr i ↦ absurd (in_none u i)
  ],
)
fold_first s (x ∷ ss) = by (earlier s x) (fold earlier (earlier s x) ss) (one_of_two s x) (fold_first (earlier s x) ss)
  where
    by : (e f : Stray) → IsOfTwo s x e → IsFirst (e ∷ ss) f → IsFirst (s ∷ x ∷ ss) f
    by e f two later = (among, first)
      where
        among : Contains (s ∷ x ∷ ss) f
        among = elim (in_cases e ss f later.0) [
          | inl i ↦ elim two.0 [
            | inl j ↦ subst (Contains (s ∷ x ∷ ss)) (sym j ∙ i) (in_head s (x ∷ ss))
            | inr j ↦ subst (Contains (s ∷ x ∷ ss)) (sym j ∙ i) (in_tail s (x ∷ ss) x (in_head x ss))
          ]
          | inr i ↦ in_tail s (x ∷ ss) f (in_tail x ss f i)
        ]

        first : (u : Stray) → Contains (s ∷ x ∷ ss) u → comes_before u f ≡ false
        first u h = elim (in_cases s (x ∷ ss) u h) [
          | inl i ↦ subst (λ z. comes_before z f ≡ false) i (not_before_trans s e f two.1 (later.1 e (in_head e ss)))
          | inr i ↦ elim (in_cases x ss u i) [
            | inl j ↦ subst (λ z. comes_before z f ≡ false) j (not_before_trans x e f two.2 (later.1 e (in_head e ss)))
            | inr j ↦ later.1 u (in_tail e ss u j)
          ]
        ]

reduce_first : (ss : List Stray) (s : Stray) → reduce earlier ss ≡ Some s → IsFirst ss s
reduce_first [] s e = absurd cc
reduce_first (x ∷ ss) s e = let same : fold earlier x ss ≡ s = cc in subst (IsFirst (x ∷ ss)) same (fold_first x ss)

-- ---- the laws

pub stray_is_first : StrayIsFirst
stray_is_first ts s e =
    let o = reduce_first (strays ts) s e in
    record { is = in_strays ts s o.0; first = λ u h. o.1 u (strays_in ts u h) }

pub serial_is_right : SerialIsRight
serial_is_right ts = (to (strays ts) refl, from (strays ts) refl)
  where
    to : (ss : List Stray) → strays ts ≡ ss → verdict_with (reduce earlier (strays ts)) ≡ verdict.Serial → AllAreRight ts
    to [] none h t c r d =
        let p = place_of ts t c in
        elim (cases_Bool (same_version r.version (expected ts (version_of t) r.key))) [
          | inl e ↦ (same_exactly r.version (expected ts (version_of t) r.key)).0 e
          | inr e ↦ absurd (in_none (stray_of ts (version_of t) p.0 r) (subst (λ z. Contains z (stray_of ts (version_of t) p.0 r)) none
              (strays_in ts (stray_of ts (version_of t) p.0 r) (record {
                by = t;
                at = p.1;
                reader = refl;
                read = r;
                reads = d;
                key = refl;
                found = refl;
                expected = refl;
                stray = λ same. absurd (let impossible : true ≡ false =
                    sym ((same_exactly r.version (expected ts (version_of t) r.key)).1 same) ∙ e in cc);
              }))))
        ]
    to (s ∷ ss) some h t c r d =
        absurd (let impossible : verdict_with (Some (fold earlier s ss)) ≡ verdict.Serial =
        ap (λ z. verdict_with (reduce earlier z)) (sym some) ∙ h in cc)

    from : (ss : List Stray) → strays ts ≡ ss → AllAreRight ts → verdict_with (reduce earlier (strays ts)) ≡ verdict.Serial
    from [] none h = ap (λ z. verdict_with (reduce earlier z)) none
    from (s ∷ ss) some h =
        let i = in_strays ts s (subst (λ z. Contains z s) (sym some) (in_head s ss)) in
        absurd (i.stray (sym i.found ∙ h i.by (listed ts s.place i.by i.at) i.read i.reads ∙ ap (λ v. expected ts v (i.read).key) i.reader
        ∙ ap (expected ts s.reader) i.key ∙ i.expected))
      where
        listed : (us : List TransactionValue) (k : ℕ) (t : TransactionValue) → slice_get us k ≡ Some t → Contains us t
        listed [] k t e = absurd cc
        listed (u ∷ us) zero t e = let same : u ≡ t = cc in subst (Contains (u ∷ us)) same (in_head u us)
        listed (u ∷ us) (suc k) t e = in_tail u us t (listed us k t e)
