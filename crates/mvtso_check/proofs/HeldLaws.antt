-- Which transactions of a table are held, after a change of one entry.
use Rattle.std.proofs.Common.{◌≡◌, ℕ, zero, suc, ◌+◌, Bool, true, false, cond, List, [], ◌∷◌}
use Rattle.std.proofs.Common.{◌++◌, Some, refl, sym, ap, subst, ◌∙◌, ◌⊎◌, inl, inr, arith}
use Rattle.std.specs.Prelude.{slice_get, slice_set, not, Contains, ⊤}
use Rattle.std.specs.List.{IsDistinct, AllByRecursion}
use Rattle.std.specs.Str.{bytes_eq}
use Rattle.std.proofs.lemmas.Bool.{cases_Bool}
use Rattle.std.proofs.lemmas.List.Elements.{Contains-append_left, Contains-append_right, Contains-append_cases}
use Rattle.std.proofs.lemmas.Map.Keys.{IsDistinct-head, IsDistinct-tail}
use Rattle.std.proofs.lemmas.Slice.Eq.{bytes_eq-Decides}
use Rattle.basil_types.specs.declared.version.Version.{Version}
use Rattle.basil_types.specs.Transaction.{TransactionValue, id, version_of}
use Rattle.basil_types.proofs.MemberLaws.{in_none, in_cases}
use Rattle.basil_types.proofs.VersionLaws.{same_exactly}
use Rattle.mv_store.specs.Held.{Held, version, removed, NoOther}
use Rattle.basil_types.specs.Version.{same_version}
use Rattle.mv_store.specs.Store.{HaveSame}
use Rattle.mvtso_check.specs.Book.{stands, held_at, held_from}
use Rattle.txn_table.specs.Entries.{EntryValue, arrived}
use Rattle.txn_table.specs.Tables.{id_of, ids_of}

-- ---- versions

same_itself : (v : Version) → same_version v v ≡ true
same_itself v = (same_exactly v v).1 refl

apart_versions : (t u : TransactionValue) → (id u ≡ id t → ⊥) → same_version (version_of t) (version_of u) ≡ false
apart_versions t u n = elim (cases_Bool (same_version (version_of t) (version_of u))) [
  | inl i ↦ absurd (n (sym (ap (λ (v : Version). v.id) ((same_exactly (version_of t) (version_of u)).0 i))))
  | inr i ↦ i
]

-- ---- elements

same_cons : (h : Held) (xs ys : List Held) → HaveSame xs ys → HaveSame (h ∷ xs) (h ∷ ys)
same_cons h xs ys s = λ z. (
  (λ c. elim (Contains-append_cases (h ∷ []) xs z c) [
    | inl i ↦ Contains-append_left (h ∷ []) ys z i
    | inr i ↦ Contains-append_right (h ∷ []) ys z ((s z).0 i)
  ]),
  (λ c. elim (Contains-append_cases (h ∷ []) ys z c) [
    | inl i ↦ Contains-append_left (h ∷ []) xs z i
    | inr i ↦ Contains-append_right (h ∷ []) xs z ((s z).1 i)
  ]),
)

pub rotated : {A : Type 0} (xs : List A) (h : A) → HaveSame (xs ++ h ∷ []) (h ∷ xs)
rotated xs h = λ z. (
  (λ c. elim (Contains-append_cases xs (h ∷ []) z c) [
    | inl i ↦ Contains-append_right (h ∷ []) xs z i
    | inr i ↦ Contains-append_left (h ∷ []) xs z i
  ]),
  (λ c. elim (Contains-append_cases (h ∷ []) xs z c) [
    | inl i ↦ Contains-append_right xs (h ∷ []) z i
    | inr i ↦ Contains-append_left xs (h ∷ []) z i
  ]),
)

same_all : {A : Type 0} (xs ys : List A) → xs ≡ ys → HaveSame xs ys
same_all xs ys e = λ z. (subst (λ l. Contains l z) e, subst (λ l. Contains l z) (sym e))

pub same_itself_all : {A : Type 0} (xs : List A) → HaveSame xs xs
same_itself_all xs = same_all xs xs refl

-- ---- entries of other ids

abbrev Apart : List ℕ → List EntryValue → Type 0
Apart x [] = ⊤
Apart x (e ∷ es) = (id_of e ≡ x → ⊥) × Apart x es

true_false : {A : Type 0} (b : Bool) → b ≡ true → b ≡ false → A
true_false b e f = let q : true ≡ false = sym e ∙ f in absurd cc

apart_from : (x : List ℕ) (es : List EntryValue) → AllByRecursion (λ y. bytes_eq x y ≡ false) (ids_of es) → Apart x es
apart_from x [] a = tt
apart_from x (e ∷ es) a = ((λ i. true_false (bytes_eq x (id_of e)) ((bytes_eq-Decides x (id_of e)).1 (sym i)) a.0), apart_from x es a.1)

-- ---- held ones by cases

held_yes : (k : ℕ) (e : EntryValue) (es : List EntryValue) → stands e ≡ true → held_from k (e ∷ es) ≡ held_at k e ∷ held_from (k + 1) es
held_yes k e es s = ap (λ b. cond b (held_at k e ∷ held_from (k + 1) es) (held_from (k + 1) es)) s

held_no : (k : ℕ) (e : EntryValue) (es : List EntryValue) → stands e ≡ false → held_from k (e ∷ es) ≡ held_from (k + 1) es
held_no k e es s = ap (λ b. cond b (held_at k e ∷ held_from (k + 1) es) (held_from (k + 1) es)) s

removed_kept : (t : TransactionValue) (h : Held) (hs : List Held) → same_version (version_of t) (version h) ≡ false
    → removed (h ∷ hs) t ≡ h ∷ removed hs t
removed_kept t h hs s = ap (λ b. cond (not b) (h ∷ removed hs t) (removed hs t)) s

removed_gone : (t : TransactionValue) (h : Held) (hs : List Held) → same_version (version_of t) (version h) ≡ true
    → removed (h ∷ hs) t ≡ removed hs t
removed_gone t h hs s = ap (λ b. cond (not b) (h ∷ removed hs t) (removed hs t)) s

removed_apart : (t : TransactionValue) (k : ℕ) (es : List EntryValue) → Apart (id t) es → removed (held_from k es) t ≡ held_from k es
removed_apart t k [] a = refl
removed_apart t k (e ∷ es) a = elim (cases_Bool (stands e)) [
  | inl i ↦
      ap (λ hs. removed hs t) (held_yes k e es i)
      ∙ removed_kept t (held_at k e) (held_from (k + 1) es) (apart_versions t e.transaction a.0)
      ∙ ap (λ hs. held_at k e ∷ hs) (removed_apart t (k + 1) es a.1)
      ∙ sym (held_yes k e es i)
  | inr i ↦ ap (λ hs. removed hs t) (held_no k e es i) ∙ removed_apart t (k + 1) es a.1 ∙ sym (held_no k e es i)
]

removed_here : (k : ℕ) (e : EntryValue) (es : List EntryValue) → Apart (id_of e) es
    → removed (held_from k (e ∷ es)) e.transaction ≡ held_from (k + 1) es
removed_here k e es a = elim (cases_Bool (stands e)) [
  | inl i ↦
      ap (λ hs. removed hs e.transaction) (held_yes k e es i)
      ∙ removed_gone e.transaction (held_at k e) (held_from (k + 1) es) (same_itself (version_of e.transaction))
      ∙ removed_apart e.transaction (k + 1) es a
  | inr i ↦ ap (λ hs. removed hs e.transaction) (held_no k e es i) ∙ removed_apart e.transaction (k + 1) es a
]

removed_before : (t : TransactionValue) (k : ℕ) (d : EntryValue) (es : List EntryValue) → (id_of d ≡ id t → ⊥) → stands d ≡ true
    → removed (held_from k (d ∷ es)) t ≡ held_at k d ∷ removed (held_from (k + 1) es) t
removed_before t k d es n i =
    ap (λ hs. removed hs t) (held_yes k d es i) ∙ removed_kept t (held_at k d) (held_from (k + 1) es) (apart_versions t d.transaction n)

-- an entry in front is of another id than the one at a place behind it
apart_got : (x : List ℕ) (es : List EntryValue) (p : ℕ) (e : EntryValue) → Apart x es → slice_get es p ≡ Some e → id_of e ≡ x → ⊥
apart_got x [] p e a h i = absurd cc
apart_got x (d ∷ es) zero e a h i = let is : d ≡ e = cc in a.0 (ap id_of is ∙ i)
apart_got x (d ∷ es) (suc p) e a h i = apart_got x es p e a.1 h i

head_apart : (d : EntryValue) (es : List EntryValue) → IsDistinct bytes_eq (ids_of (d ∷ es)) → Apart (id_of d) es
head_apart d es a = apart_from (id_of d) es (IsDistinct-head bytes_eq (id_of d) (ids_of es) a)

before_apart : (d : EntryValue) (es : List EntryValue) (p : ℕ) (e : EntryValue) → IsDistinct bytes_eq (ids_of (d ∷ es))
    → slice_get es p ≡ Some e → id_of d ≡ id_of e → ⊥
before_apart d es p e a h i = apart_got (id_of d) es p e (head_apart d es a) h (sym i)

-- ---- a change of one entry

-- the entry no longer stands
pub taken_out : (k : ℕ) (es : List EntryValue) (p : ℕ) (e e' : EntryValue) → IsDistinct bytes_eq (ids_of es) → slice_get es p ≡ Some e
    → stands e' ≡ false → removed (held_from k es) e.transaction ≡ held_from k (slice_set es p e')
taken_out k [] p e e' a h s = absurd cc
taken_out k (d ∷ es) zero e e' a h s =
    let is : d ≡ e = cc in
    ap (λ (t : EntryValue). removed (held_from k (d ∷ es)) t.transaction) (sym is) ∙ removed_here k d es (head_apart d es a)
    ∙ sym (held_no k e' es s)
taken_out k (d ∷ es) (suc p) e e' a h s = elim (cases_Bool (stands d)) [
  | inl i ↦
      removed_before e.transaction k d es (before_apart d es p e a h) i
      ∙ ap (λ hs. held_at k d ∷ hs) (taken_out (k + 1) es p e e' (IsDistinct-tail bytes_eq (id_of d) (ids_of es) a) h s)
      ∙ sym (held_yes k d (slice_set es p e') i)
  | inr i ↦
      ap (λ hs. removed hs e.transaction) (held_no k d es i)
      ∙ taken_out (k + 1) es p e e' (IsDistinct-tail bytes_eq (id_of d) (ids_of es) a) h s
      ∙ sym (held_no k d (slice_set es p e') i)
]

-- the entry stands from now on
pub put_in : (k : ℕ) (es : List EntryValue) (p : ℕ) (e e' : EntryValue) → IsDistinct bytes_eq (ids_of es) → slice_get es p ≡ Some e
    → stands e' ≡ true → HaveSame (removed (held_from k es) e.transaction ++ held_at (k + p) e' ∷ []) (held_from k (slice_set es p e'))
put_in k [] p e e' a h s = absurd cc
put_in k (d ∷ es) zero e e' a h s =
    let is : d ≡ e = cc in
    let n : k + 0 ≡ k = omega arith in
    let r = ap (λ (t : EntryValue). removed (held_from k (d ∷ es)) t.transaction) (sym is) ∙ removed_here k d es (head_apart d es a) in
    let left : removed (held_from k (d ∷ es)) e.transaction ++ held_at (k + 0) e' ∷ []
    ≡ held_from (k + 1) es ++ held_at k e' ∷ [] = ap (λ hs. hs ++ held_at (k + 0) e' ∷ []) r
    ∙ ap (λ (m : ℕ). held_from (k + 1) es ++ held_at m e' ∷ []) n in
    subst (λ hs. HaveSame hs (held_from k (e' ∷ es))) (sym left) (subst (λ hs. HaveSame (held_from (k + 1) es
    ++ held_at k e' ∷ []) hs) (sym (held_yes k e' es s)) (rotated (held_from (k + 1) es) (held_at k e')))
put_in k (d ∷ es) (suc p) e e' a h s =
    let n : (k + 1) + p ≡ k + suc p = omega arith in
    let next : HaveSame (removed (held_from (k + 1) es) e.transaction
    ++ held_at (k + suc p) e' ∷ []) (held_from (k + 1) (slice_set es p e')) =
    subst (λ (m : ℕ). HaveSame (removed (held_from (k + 1) es) e.transaction
    ++ held_at m e' ∷ []) (held_from (k + 1) (slice_set es p e'))) n
    (put_in (k + 1) es p e e' (IsDistinct-tail bytes_eq (id_of d) (ids_of es) a) h s) in
    elim (cases_Bool (stands d)) [
      | inl i ↦
          subst (λ hs. HaveSame (hs
          ++ held_at (k + suc p) e' ∷ []) (held_from k (d ∷ slice_set es p e')))
          (sym (removed_before e.transaction k d es (before_apart d es p e a h) i))
          (subst (λ hs. HaveSame (held_at k d ∷ (removed (held_from (k + 1) es) e.transaction
          ++ held_at (k + suc p) e' ∷ [])) hs) (sym (held_yes k d (slice_set es p e') i))
          (same_cons (held_at k d) _ _ next))
      | inr i ↦
          subst (λ hs. HaveSame (removed hs e.transaction
          ++ held_at (k + suc p) e' ∷ []) (held_from k (d ∷ slice_set es p e'))) (sym (held_no k d es i))
          (subst (λ hs. HaveSame (removed (held_from (k + 1) es) e.transaction
          ++ held_at (k + suc p) e' ∷ []) hs) (sym (held_no k d (slice_set es p e') i)) next)
    ]

-- nothing changes for the index
pub stays_in : (k : ℕ) (es : List EntryValue) (p : ℕ) (e e' : EntryValue) → slice_get es p ≡ Some e → stands e' ≡ stands e
    → held_at (k + p) e' ≡ held_at (k + p) e → held_from k (slice_set es p e') ≡ held_from k es
stays_in k [] p e e' h s c = absurd cc
stays_in k (d ∷ es) zero e e' h s c =
    let is : d ≡ e = cc in
    let n : k + 0 ≡ k = omega arith in
    let c' : held_at k e' ≡ held_at k e = subst (λ (m : ℕ). held_at m e' ≡ held_at m e) n c in
    ap (λ b. cond b (held_at k e' ∷ held_from (k + 1) es) (held_from (k + 1) es)) s
    ∙ ap (λ x. cond (stands e) (x ∷ held_from (k + 1) es) (held_from (k + 1) es)) c'
    ∙ ap (λ (z : EntryValue). held_from k (z ∷ es)) (sym is)
stays_in k (d ∷ es) (suc p) e e' h s c =
    let n : k + suc p ≡ (k + 1) + p = omega arith in
    ap (λ hs. cond (stands d) (held_at k d ∷ hs) hs) (stays_in (k + 1) es p e e' h s (subst (λ (m : ℕ). held_at m e' ≡ held_at m e) n c))

-- one that arrives doesn't stand
pub arrives_out : (k : ℕ) (es : List EntryValue) (t : TransactionValue) → held_from k (es ++ arrived t ∷ []) ≡ held_from k es
arrives_out k [] t = refl
arrives_out k (d ∷ es) t = ap (λ hs. cond (stands d) (held_at k d ∷ hs) hs) (arrives_out (k + 1) es t)

-- ---- no other transaction of its version

none_apart : (x : List ℕ) (k : ℕ) (es : List EntryValue) (h : Held) → Apart x es → Contains (held_from k es) h → (version h).id ≡ x → ⊥
none_apart x k [] h a c i = in_none h c
none_apart x k (e ∷ es) h a c i = elim (cases_Bool (stands e)) [
  | inl s ↦
      elim (in_cases (held_at k e) (held_from (k + 1) es) h (subst (λ hs. Contains hs h) (held_yes k e es s) c)) [
        | inl f ↦ a.0 (ap (λ (z : Held). (version z).id) f ∙ i)
        | inr f ↦ none_apart x (k + 1) es h a.1 f i
      ]
  | inr s ↦ none_apart x (k + 1) es h a.1 (subst (λ hs. Contains hs h) (held_no k e es s) c) i
]

pub no_other : (k : ℕ) (es : List EntryValue) (p : ℕ) (e : EntryValue) → IsDistinct bytes_eq (ids_of es) → slice_get es p ≡ Some e
    → NoOther (held_from k es) e.transaction
no_other k [] p e a g h c v = absurd cc
no_other k (d ∷ es) zero e a g h c v =
    let is : d ≡ e = cc in
    elim (cases_Bool (stands d)) [
      | inl s ↦
          elim (in_cases (held_at k d) (held_from (k + 1) es) h (subst (λ hs. Contains hs h) (held_yes k d es s) c)) [
            | inl f ↦ ap (λ (z : Held). z.transaction) (sym f) ∙ ap (λ (z : EntryValue). z.transaction) is
            | inr f ↦ absurd (none_apart (id_of d) (k + 1) es h (head_apart d es a) f (ap (λ (w : Version). w.id) v ∙ ap id_of (sym is)))
          ]
      | inr s ↦ absurd (none_apart (id_of d) (k + 1) es h
          (head_apart d es a) (subst (λ hs. Contains hs h) (held_no k d es s) c) (ap (λ (w : Version). w.id) v ∙ ap id_of (sym is)))
    ]
no_other k (d ∷ es) (suc p) e a g h c v =
    let next = no_other (k + 1) es p e (IsDistinct-tail bytes_eq (id_of d) (ids_of es) a) g h in
    elim (cases_Bool (stands d)) [
      | inl s ↦
          elim (in_cases (held_at k d) (held_from (k + 1) es) h (subst (λ hs. Contains hs h) (held_yes k d es s) c)) [
            | inl f ↦ absurd (before_apart d es p e a g (ap (λ (z : Held). (version z).id) f ∙ ap (λ (w : Version). w.id) v))
            | inr f ↦ next f v
          ]
      | inr s ↦ next (subst (λ hs. Contains hs h) (held_no k d es s) c) v
    ]

-- no two have one version
pub held_apart : (k : ℕ) (es : List EntryValue) (g h : Held) → IsDistinct bytes_eq (ids_of es) → Contains (held_from k es) g
    → Contains (held_from k es) h → version g ≡ version h → g ≡ h
held_apart k [] g h a i j v = absurd (in_none g i)
held_apart k (d ∷ es) g h a i j v =
    by (held_apart (k + 1) es g h (IsDistinct-tail bytes_eq (id_of d) (ids_of es) a)) (cases_Bool (stands d))
  where
    same_id : (version g).id ≡ (version h).id
    same_id = ap (λ (w : Version). w.id) v

    behind : (x : Held) → Contains (held_from (k + 1) es) x → (version x).id ≡ id_of d → ⊥
    behind x c e = none_apart (id_of d) (k + 1) es x (head_apart d es a) c e

    first : (x : Held) → held_at k d ≡ x → (version x).id ≡ id_of d
    first x e = ap (λ (z : Held). (version z).id) (sym e)

    both : (Contains (held_from (k + 1) es) g → Contains (held_from (k + 1) es) h → version g ≡ version h → g ≡ h)
        → (held_at k d ≡ g) ⊎ Contains (held_from (k + 1) es) g → (held_at k d ≡ h) ⊎ Contains (held_from (k + 1) es) h → g ≡ h
    both next (inl p) (inl q) = sym p ∙ q
    both next (inl p) (inr q) = absurd (behind h q (sym same_id ∙ first g p))
    both next (inr p) (inl q) = absurd (behind g p (same_id ∙ first h q))
    both next (inr p) (inr q) = next p q v

    by : (Contains (held_from (k + 1) es) g → Contains (held_from (k + 1) es) h → version g ≡ version h → g ≡ h)
        → (stands d ≡ true) ⊎ (stands d ≡ false) → g ≡ h
    by next (inl s) = both next (in_cases (held_at k d) (held_from (k + 1) es) g (subst (λ hs. Contains hs g) (held_yes k d es s) i))
        (in_cases (held_at k d) (held_from (k + 1) es) h (subst (λ hs. Contains hs h) (held_yes k d es s) j))
    by next (inr s) = next (subst (λ hs. Contains hs g) (held_no k d es s) i) (subst (λ hs. Contains hs h) (held_no k d es s) j) v
