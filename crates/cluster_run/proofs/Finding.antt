-- The entry of an id, by recursion.
use Rattle.std.proofs.Common.{◌≡◌, ℕ, suc, ◌+◌, Bool, true, false, cond, not, List, [], ◌∷◌, ◌++◌, Option, Some, None, refl, sym, ap, subst}
use Rattle.std.proofs.Common.{◌∙◌, arith, inl, inr}
use Rattle.std.specs.Prelude.{option_map, option_and_then, position, slice_get, slice_set, is_some, Result, Ok, Err}
use Rattle.std.specs.Option.{option_map_or}
use Rattle.std.specs.Str.{bytes_eq}
use Rattle.std.proofs.lemmas.Bool.{cases_Bool}
use Rattle.std.proofs.lemmas.Grind.{common_steps}
use Rattle.std.proofs.lemmas.Slice.Eq.{bytes_eq-Decides}
use Rattle.basil_types.specs.Transaction.{TransactionValue, id}
use Rattle.txn_table.specs.Entries.{EntryValue, arrived}
use Rattle.txn_table.specs.Tables.{id_of, ids_of, place_of, changed, entry_with}
use Rattle.replica_core.specs.Replicas.{LoggedEntry}
use Rattle.replica_core.specs.Known.{changed_at, logged_with, put_logged, with_known}
use Rattle.basil_types.specs.Setting.{Setting}
use Rattle.law_joins.specs.Books.{AreTexts}
use Rattle.cluster_run.specs.Acting.{FindsEach}
use Rattle.cluster_run.specs.Settings.{Lookup, Finds, basis_of}
use Rattle.cluster_run.proofs.Members.{in_cases}

pub same_true : (x y : List ℕ) → bytes_eq x y ≡ true → x ≡ y
same_true x y e = (bytes_eq-Decides x y).0 e

pub same_self : (x : List ℕ) → bytes_eq x x ≡ true
same_self x = (bytes_eq-Decides x x).1 refl

pub true_false : {A : Type 0} (b : Bool) → b ≡ true → b ≡ false → A
true_false b e f = let q : true ≡ false = sym e ∙ f in absurd cc

pub position-cons : {A : Type 0} (p : A → Bool) (x : A) (xs : List A) → position p (x ∷ xs)
    ≡ cond (p x) (Some 0) (option_map (λ k. k + 1) (position p xs))
position-cons p x xs = by (p x) refl
  where
    by : (b : Bool) → p x ≡ b → position p (x ∷ xs) ≡ cond b (Some 0) (option_map (λ k. k + 1) (position p xs))
    by true e = grind (arith, common_steps)
    by false e = grind (arith, common_steps)

pub mapped_none : {A B : Type 0} (f : A → B) (o : Option A) → option_map f o ≡ None → o ≡ None
mapped_none f None e = refl
mapped_none f (Some k) e = absurd cc

pub none_is : {A : Type 0} (o : Option A) → is_some o ≡ false → o ≡ None
none_is None h = refl
none_is (Some k) h = absurd cc

pub some_is : {X : Type 0} (a b : X) → (o : Option X) → o ≡ Some a → o ≡ Some b → a ≡ b
some_is a b o e f = let q : Some a ≡ Some b = sym e ∙ f in cc

value_of : {E A : Type 0} → A → Result A E → A
value_of a (Ok b) = b
value_of a (Err e) = a

pub ok_is : {E A : Type 0} (a b : A) → (the : Result A E) → the ≡ Ok a → the ≡ Ok b → a ≡ b
unfolding value_of
ok_is a b the e f = ap (value_of a) (sym e ∙ f)

pub none_parts : {A : Type 0} (p : A → Bool) (x : A) (xs : List A) → position p (x ∷ xs) ≡ None → (p x ≡ false) × (position p xs ≡ None)
none_parts p x xs e = by (p x) refl
  where
    by : (b : Bool) → p x ≡ b → (p x ≡ false) × (position p xs ≡ None)
    by true h =
        let some : position p (x ∷ xs) ≡ Some 0 =
        position-cons p x xs ∙ ap (λ b. cond b (Some 0) (option_map (λ k. k + 1) (position p xs))) h in
        absurd cc
    by false h = (
      h,
      mapped_none (λ k. k + 1) (position p xs) (sym
          (position-cons p x xs ∙ ap (λ b. cond b (Some 0) (option_map (λ k. k + 1) (position p xs))) h) ∙ e),
    )

pub not_not : (b : Bool) → not b ≡ false → b ≡ true
not_not true h = refl
not_not false h = absurd cc

-- the entry of an id, by recursion
abbrev pub found : List ℕ → List EntryValue → Option EntryValue
found x [] = None
found x (e ∷ es) = cond (bytes_eq x (id_of e)) (Some e) (found x es)

next_got : (e : EntryValue) (es : List EntryValue) (o : Option ℕ) → option_and_then (slice_get (e ∷ es)) (option_map (λ k. k + 1) o)
    ≡ option_and_then (slice_get es) o
next_got e es None = refl
next_got e es (Some k) = let i : k + 1 ≡ suc k = omega arith in ap (slice_get (e ∷ es)) i

got_by : (x : List ℕ) (e : EntryValue) (es : List EntryValue) (b : Bool) → option_and_then (slice_get es) (place_of es x) ≡ found x es →
    option_and_then (slice_get (e ∷ es)) (cond b (Some 0) (option_map (λ k. k + 1) (place_of es x))) ≡ cond b (Some e) (found x es)
got_by x e es true h = refl
got_by x e es false h = next_got e es (place_of es x) ∙ h

pub entry_found : (x : List ℕ) (es : List EntryValue) → entry_with es x ≡ found x es
entry_found x [] = refl
entry_found x (e ∷ es) =
    ap (option_and_then (slice_get (e ∷ es))) (position-cons (bytes_eq x) (id_of e) (ids_of es))
    ∙ got_by x e es (bytes_eq x (id_of e)) (entry_found x es)

-- of known transactions that are those of their ids
pub looked_found : (tx : Lookup) (es : List EntryValue) (y : List ℕ) (e : EntryValue) → FindsEach tx es → found y es ≡ Some e → tx y
    ≡ e.transaction
looked_found tx [] y e l h = absurd cc
looked_found tx (d ∷ es) y e l h = elim (cases_Bool (bytes_eq y (id_of d))) [
  | inl i ↦
      let q : Some d ≡ Some e = sym (ap (λ b. cond b (Some d) (found y es)) i) ∙ h in
      let is : d ≡ e = cc in
      ap tx (same_true y (id_of d) i) ∙ l.0 ∙ ap (λ (z : EntryValue). z.transaction) is
  | inr n ↦ looked_found tx es y e l.1 (sym (ap (λ b. cond b (Some d) (found y es)) n) ∙ h)
]

pub are_texts : (c : Setting) (faulty : ℕ → ℕ → Bool) (tx : Lookup) (es : List EntryValue) → FindsEach tx es →
    AreTexts (basis_of c faulty tx) es
are_texts c faulty tx [] l e i = absurd (omega (arith, i.1))
are_texts c faulty tx (d ∷ es) l e i = elim (in_cases e d es i) [
  | inl same ↦ subst (λ (z : EntryValue). Finds tx z.transaction) same l.0
  | inr j ↦ are_texts c faulty tx es l.1 e j
]

-- ---- a change of one entry, by recursion

abbrev pub altered : (EntryValue → EntryValue) → List ℕ → List EntryValue → List EntryValue
altered f x [] = []
altered f x (e ∷ es) = cond (bytes_eq x (id_of e)) (f e ∷ es) (e ∷ altered f x es)

abbrev change_by : (EntryValue → EntryValue) → List EntryValue → Option ℕ → List EntryValue
change_by f es o = option_map_or (λ place. changed f place es) o es

next_set : (f : EntryValue → EntryValue) (k : ℕ) (e : EntryValue) (es : List EntryValue) (o : Option EntryValue) →
    option_map_or (λ x. slice_set (e ∷ es) (suc k) (f x)) o (e ∷ es) ≡ e ∷ option_map_or (λ x. slice_set es k (f x)) o es
next_set f k e es None = refl
next_set f k e es (Some x) = refl

next_changed : (f : EntryValue → EntryValue) (e : EntryValue) (es : List EntryValue) (o : Option ℕ) →
    change_by f (e ∷ es) (option_map (λ k. k + 1) o) ≡ e ∷ change_by f es o
next_changed f e es None = refl
next_changed f e es (Some k) =
    let i : k + 1 ≡ suc k = omega arith in
    ap (λ (n : ℕ). changed f n (e ∷ es)) i ∙ next_set f k e es (slice_get es k)

altered_by : (f : EntryValue → EntryValue) (x : List ℕ) (e : EntryValue) (es : List EntryValue) (b : Bool) → changed_at f x es
    ≡ altered f x es → change_by f (e ∷ es) (cond b (Some 0) (option_map (λ k. k + 1) (place_of es x)))
    ≡ cond b (f e ∷ es) (e ∷ altered f x es)
altered_by f x e es true h = refl
altered_by f x e es false h = next_changed f e es (place_of es x) ∙ ap (λ l. e ∷ l) h

pub changed_altered : (f : EntryValue → EntryValue) (x : List ℕ) (es : List EntryValue) → changed_at f x es ≡ altered f x es
changed_altered f x [] = refl
changed_altered f x (e ∷ es) =
    ap (change_by f (e ∷ es)) (position-cons (bytes_eq x) (id_of e) (ids_of es))
    ∙ altered_by f x e es (bytes_eq x (id_of e)) (changed_altered f x es)

-- what is found after a change that keeps the transaction
module _ (f : EntryValue → EntryValue) (keeps : (e : EntryValue) → (f e).transaction ≡ e.transaction) where
  same_id : (e : EntryValue) → id_of (f e) ≡ id_of e
  same_id e = ap (λ (t : TransactionValue). id t) (keeps e)

  pub found_same : (x : List ℕ) (es : List EntryValue) → found x (altered f x es) ≡ option_map f (found x es)
  found_same x [] = refl
  found_same x (e ∷ es) = by (bytes_eq x (id_of e)) refl (found_same x es)
    where
      by : (b : Bool) → bytes_eq x (id_of e) ≡ b → found x (altered f x es) ≡ option_map f (found x es) →
          found x (cond b (f e ∷ es) (e ∷ altered f x es)) ≡ option_map f (cond b (Some e) (found x es))
      by true i r = ap (λ b. cond b (Some (f e)) (found x es)) (ap (bytes_eq x) (same_id e) ∙ i)
      by false i r = ap (λ b. cond b (Some e) (found x (altered f x es))) i ∙ r

  pub found_other : (x y : List ℕ) (es : List EntryValue) → bytes_eq y x ≡ false → found y (altered f x es) ≡ found y es
  found_other x y [] n = refl
  found_other x y (e ∷ es) n = by (bytes_eq x (id_of e)) refl (found_other x y es n)
    where
      by : (b : Bool) → bytes_eq x (id_of e) ≡ b → found y (altered f x es) ≡ found y es → found y (cond b (f e ∷ es) (e ∷ altered f x es))
          ≡ cond (bytes_eq y (id_of e)) (Some e) (found y es)
      by true i r =
          let is : x ≡ id_of e = same_true x (id_of e) i in
          let not_here : bytes_eq y (id_of e) ≡ false = ap (bytes_eq y) (sym is) ∙ n in
          ap (λ b. cond b (Some (f e)) (found y es)) (ap (bytes_eq y) (same_id e) ∙ not_here)
          ∙ sym (ap (λ b. cond b (Some e) (found y es)) not_here)
      by false i r = ap (cond (bytes_eq y (id_of e)) (Some e)) r

-- ---- a transaction that becomes known

found_appended : (x : List ℕ) (t : TransactionValue) (es : List EntryValue) (n : found x es ≡ None) → found x (es ++ arrived t ∷ [])
    ≡ cond (bytes_eq x (id t)) (Some (arrived t)) None
found_appended x t [] n = refl
found_appended x t (e ∷ es) n = by (bytes_eq x (id_of e)) refl (found_appended x t es)
  where
    by : (b : Bool) → bytes_eq x (id_of e) ≡ b → (found x es ≡ None → found x (es ++ arrived t ∷ [])
        ≡ cond (bytes_eq x (id t)) (Some (arrived t)) None) → cond b (Some e) (found x (es ++ arrived t ∷ []))
        ≡ cond (bytes_eq x (id t)) (Some (arrived t)) None
    by true i r = let q : Some e ≡ None = sym (ap (λ b. cond b (Some e) (found x es)) i) ∙ n in absurd cc
    by false i r = r (sym (ap (λ b. cond b (Some e) (found x es)) i) ∙ n)

found_before : (x : List ℕ) (t : TransactionValue) (es : List EntryValue) (e : EntryValue) → found x es ≡ Some e →
    found x (es ++ arrived t ∷ []) ≡ Some e
found_before x t [] e s = absurd cc
found_before x t (d ∷ es) e s = by (bytes_eq x (id_of d)) refl (found_before x t es e)
  where
    by : (b : Bool) → bytes_eq x (id_of d) ≡ b → (found x es ≡ Some e → found x (es ++ arrived t ∷ []) ≡ Some e) →
        cond b (Some d) (found x (es ++ arrived t ∷ [])) ≡ Some e
    by true i r = sym (ap (λ b. cond b (Some d) (found x es)) i) ∙ s
    by false i r = r (sym (ap (λ b. cond b (Some d) (found x es)) i) ∙ s)

-- an id has a place exactly where its entry is found
placed_by : (x : List ℕ) (e : EntryValue) (es : List EntryValue) (b : Bool) → is_some (place_of es x) ≡ is_some (found x es) →
    is_some (cond b (Some 0) (option_map (λ k. k + 1) (place_of es x))) ≡ is_some (cond b (Some e) (found x es))
placed_by x e es true h = refl
placed_by x e es false h = some_mapped (place_of es x) ∙ h
  where
    some_mapped : (o : Option ℕ) → is_some (option_map (λ k. k + 1) o) ≡ is_some o
    some_mapped None = refl
    some_mapped (Some k) = refl

pub placed_found : (x : List ℕ) (es : List EntryValue) → is_some (place_of es x) ≡ is_some (found x es)
placed_found x [] = refl
placed_found x (e ∷ es) =
    ap is_some (position-cons (bytes_eq x) (id_of e) (ids_of es)) ∙ placed_by x e es (bytes_eq x (id_of e)) (placed_found x es)

-- what is found once a transaction is known: what was found before, or the new entry
abbrev pub found_or : TransactionValue → List ℕ → Option EntryValue → Option EntryValue
found_or t x None = cond (bytes_eq x (id t)) (Some (arrived t)) None
found_or t x (Some e) = Some e

found_or_same : (t : TransactionValue) (x : List ℕ) (es : List EntryValue) (o : Option EntryValue) → found x es ≡ o →
    found x (es ++ arrived t ∷ []) ≡ found_or t x o
found_or_same t x es None h = found_appended x t es h
found_or_same t x es (Some e) h = found_before x t es e h

pub found_known : (t : TransactionValue) (x : List ℕ) (es : List EntryValue) → found x (with_known es t) ≡ found_or t x (found x es)
found_known t x es = by (found (id t) es) refl
  where
    stays : (o : Option EntryValue) → (bytes_eq x (id t) ≡ true → is_some o ≡ true) → o ≡ found_or t x o
    stays None h = elim (cases_Bool (bytes_eq x (id t))) [
      | inl i ↦ let q : false ≡ true = h i in absurd cc
      | inr i ↦ sym (ap (λ b. cond b (Some (arrived t)) None) i)
    ]
    stays (Some e) h = refl

    by : (o : Option EntryValue) → found (id t) es ≡ o → found x (with_known es t) ≡ found_or t x (found x es)
    by None h =
        ap (λ (b : Bool). found x (cond b es (es ++ arrived t ∷ []))) (placed_found (id t) es ∙ ap is_some h)
        ∙ found_or_same t x es (found x es) refl
    by (Some e) h =
        ap (λ (b : Bool). found x (cond b es (es ++ arrived t ∷ []))) (placed_found (id t) es ∙ ap is_some h)
        ∙ stays (found x es) (λ i. ap (λ (y : List ℕ). is_some (found y es)) (same_true x (id t) i) ∙ ap is_some h)

-- ---- what is logged

pub logged_same : (l : LoggedEntry) (ls : List LoggedEntry) → logged_with (put_logged l ls) l.id ≡ Some l
logged_same l [] = ap (λ b. cond b (Some l) None) (same_self l.id)
logged_same l (x ∷ xs) = by (bytes_eq x.id l.id) refl (logged_same l xs)
  where
    by : (b : Bool) → bytes_eq x.id l.id ≡ b → logged_with (put_logged l xs) l.id ≡ Some l →
        logged_with (cond b (l ∷ xs) (x ∷ put_logged l xs)) l.id ≡ Some l
    by true i r = ap (λ b. cond b (Some l) (logged_with xs l.id)) (same_self l.id)
    by false i r = ap (λ b. cond b (Some x) (logged_with (put_logged l xs) l.id)) i ∙ r

pub not_same : (x y : List ℕ) → bytes_eq x y ≡ false → bytes_eq y x ≡ false
not_same x y n = elim (cases_Bool (bytes_eq y x)) [
  | inl i ↦ true_false (bytes_eq x y) (ap (bytes_eq x) (same_true y x i) ∙ same_self x) n
  | inr i ↦ i
]

pub logged_other : (l : LoggedEntry) (y : List ℕ) (ls : List LoggedEntry) → bytes_eq y l.id ≡ false → logged_with (put_logged l ls) y
    ≡ logged_with ls y
logged_other l y [] n = ap (λ b. cond b (Some l) None) (not_same y l.id n)
logged_other l y (x ∷ xs) n = by (bytes_eq x.id l.id) refl (logged_other l y xs n)
  where
    by : (b : Bool) → bytes_eq x.id l.id ≡ b → logged_with (put_logged l xs) y ≡ logged_with xs y →
        logged_with (cond b (l ∷ xs) (x ∷ put_logged l xs)) y ≡ cond (bytes_eq x.id y) (Some x) (logged_with xs y)
    by true i r =
        let is : x.id ≡ l.id = same_true x.id l.id i in
        ap (λ b. cond b (Some l) (logged_with xs y)) (not_same y l.id n)
        ∙ sym (ap (λ b. cond b (Some x) (logged_with xs y)) (ap (λ (z : List ℕ). bytes_eq z y) is ∙ not_same y l.id n))
    by false i r = ap (cond (bytes_eq x.id y) (Some x)) r
