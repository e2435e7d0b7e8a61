-- What stands at a key of a replayed map.
use Rattle.std.proofs.Common.{◌≡◌, ℕ, Bool, true, false, cond, ◌⊎◌, inl, inr, List, [], ◌∷◌, Option, Some, None, refl, ap, sym, ◌∙◌, subst}
use Rattle.std.specs.Prelude.{map, filter}
use Rattle.std.specs.declared.cmp.Ordering.{Ordering}
use Rattle.std.specs.declared.cmp.Ordering.TheVariants.{Less, Equal, Greater}
use Rattle.std.specs.BTreeMap.{insert_entry}
use Rattle.std.specs.Cmp.Lexicographic.{slice_cmp}
use Rattle.std.specs.List.{Contains, list_any}
use Rattle.std.specs.List.Sorted.{IsStrictlySortedBy}
use Rattle.std.specs.Map.{keys_of}
use Rattle.std.specs.Ordering.{nat_cmp, is_eq}
use Rattle.std.specs.Str.{bytes_eq}
use Rattle.std.proofs.lemmas.Bool.{cases_Bool, or_cases, or_parts}
use Rattle.std.proofs.lemmas.Cmp.{nat_list_cmp_total}
use Rattle.std.proofs.lemmas.List.Elements.{All-from_recursion, All-contains}
use Rattle.std.proofs.lemmas.Map.Lookups.{exact_bytes}
use Rattle.std.proofs.lemmas.Slice.Eq.{bytes_eq-Decides}
use Rattle.basil_types.specs.declared.replayed.Latest.{Latest}
use Rattle.basil_types.specs.declared.transaction.parts.WritePart.{WritePart}
use Rattle.basil_types.specs.declared.version.Version.{Version}
use Rattle.basil_types.specs.Replayed.{Replayed, Versions, latest_of, put_writes, replay, put_versions, by_version, map_of, before}
use Rattle.basil_types.specs.Transaction.{TransactionValue, version_of, writes_key}
use Rattle.basil_types.specs.Version.{version_cmp, below}
use Rattle.basil_types.specs.Latest.{at, IsLatest, IsOneEach, IsBelow, left_by, leaves, MapsAreLatest, MapsBeforeAreLatest, MapsForgetOrder}
use Rattle.basil_types.proofs.EntryLaws.{found_put, found_apart, sorted_put, in_put, kept_by_put, from_put, same_entries}
use Rattle.basil_types.proofs.MemberLaws.{in_none, in_head, in_tail, in_cases, in_filter, filter_in, in_map, map_in}
use Rattle.basil_types.proofs.VersionLaws.{version_total, version_exact, less_below, below_itself, not_both, same_from_neither}

-- ---- one transaction

tied : (o : Ordering) → is_eq o ≡ true → o ≡ Equal
tied Less e = absurd cc
tied Equal e = refl
tied Greater e = absurd cc

at_put : (entries : Replayed) (k key : List ℕ) (l : Latest) → at (insert_entry (slice_cmp nat_cmp) entries k l) key ≡ cond (bytes_eq k key)
    (Some l) (at entries key)
at_put entries k key l = elim (cases_Bool (bytes_eq k key)) [
  | inl e ↦
      let P : List ℕ → Type 0 = λ z. at (insert_entry (slice_cmp nat_cmp) entries k l) z ≡ Some l in
      subst P ((bytes_eq-Decides k key).0 e) (found_put nat_list_cmp_total exact_bytes k l entries) ∙ sym
      (ap (λ b. cond b (Some l) (at entries key)) e)
  | inr e ↦
      let apart : is_eq (slice_cmp nat_cmp key k) ≡ false = elim (cases_Bool (is_eq (slice_cmp nat_cmp key k))) [
        | inl h ↦ absurd
            (let impossible : true ≡ false = sym ((bytes_eq-Decides k key).1 (sym (exact_bytes key k (tied (slice_cmp nat_cmp key k) h))))
            ∙ e in cc)
        | inr h ↦ h
      ] in
      found_apart nat_list_cmp_total exact_bytes key k l apart entries ∙ sym (ap (λ b. cond b (Some l) (at entries key)) e)
]

at_writes : (v : Version) (ws : List WritePart) (entries : Replayed) (key : List ℕ) → at (put_writes v entries ws) key ≡ left_by v ws key
    (at entries key)
at_writes v [] entries key = refl
at_writes v (w ∷ ws) entries key =
    at_writes v ws (insert_entry (slice_cmp nat_cmp) entries w.key (latest_of v w)) key ∙ ap (left_by v ws key)
    (at_put entries w.key key (latest_of v w))

abbrev writes_in : List WritePart → List ℕ → Bool
writes_in ws key = list_any (λ w. bytes_eq w.key key) ws

left_none : (v : Version) (ws : List WritePart) (key : List ℕ) (old : Option Latest) → writes_in ws key ≡ false → left_by v ws key old ≡ old
left_none v [] key old h = refl
left_none v (w ∷ ws) key old h =
    let p = or_parts (bytes_eq w.key key) (writes_in ws key) h in
    left_none v ws key (cond (bytes_eq w.key key) (Some (latest_of v w)) old) p.1 ∙ ap (λ b. cond b (Some (latest_of v w)) old) p.0

pub left_some : (v : Version) (ws : List WritePart) (key : List ℕ) → writes_in ws key ≡ true → (l : Latest) × (l.version ≡ v) ×
    ((old : Option Latest) → left_by v ws key old ≡ Some l)
left_some v [] key h = absurd cc
left_some v (w ∷ ws) key h = elim (cases_Bool (writes_in ws key)) [
  | inl k ↦ let o = left_some v ws key k in (o.0, o.1, λ old. o.2 (cond (bytes_eq w.key key) (Some (latest_of v w)) old))
  | inr k ↦ elim (or_cases (bytes_eq w.key key) (writes_in ws key) h) [
    | inl e ↦ (
      latest_of v w,
      refl,
      λ old. left_none v ws key (cond (bytes_eq w.key key) (Some (latest_of v w)) old) k ∙ ap
          (λ b. cond b (Some (latest_of v w)) old) e,
    )
    | inr e ↦ absurd (let impossible : true ≡ false = sym e ∙ k in cc)
  ]
]

-- what a transaction leaves it wrote, at its version
pub left_written : (t : TransactionValue) (key : List ℕ) (l : Latest) → leaves t key ≡ Some l → (writes_key t key ≡ true) ×
    (l.version ≡ version_of t)
left_written t key l h = elim (cases_Bool (writes_key t key)) [
  | inl k ↦ let o =
      left_some (version_of t) t.writes key k in
      (k, let e : Some o.0 ≡ Some l = sym (o.2 None) ∙ h in let f : o.0 ≡ l = cc in ap (λ (z : Latest). z.version) (sym f) ∙ o.1)
  | inr k ↦ absurd (let e : None ≡ Some l = sym (left_none (version_of t) t.writes key None k) ∙ h in cc)
]

-- ---- transactions in the order of their versions

abbrev pub IsRising : List TransactionValue → Type 0
IsRising [] = Unit {0}
IsRising (t ∷ ts) = ((u : TransactionValue) → Contains ts u → below (version_of t) (version_of u) ≡ true) × IsRising ts

-- either nothing is written, or the latest is left
abbrev Leaves : List TransactionValue → (key : List ℕ) → (old new : Option Latest) → Type 0
Leaves ts key old new =
    (((u : TransactionValue) → Contains ts u → writes_key u key ≡ false) × (new ≡ old))
    ⊎ ((l : Latest) × (new ≡ Some l) × IsLatest (Contains ts) (Contains ts) key (Some l))

pub replay_leaves : (ts : List TransactionValue) → IsRising ts → (entries : Replayed) (key : List ℕ) → Leaves ts key (at entries key)
    (at (replay entries ts) key)
replay_leaves [] s entries key = inl (λ u h. absurd (in_none u h), refl)
replay_leaves (t ∷ ts) s entries key = by (replay_leaves ts s.1 (put_writes (version_of t) entries t.writes) key)
  where
    by : Leaves ts key (at (put_writes (version_of t) entries t.writes) key)
        (at (replay (put_writes (version_of t) entries t.writes) ts) key) → Leaves (t ∷ ts) key (at entries key)
        (at (replay (put_writes (version_of t) entries t.writes) ts) key)
    by (inr o) =
        let i = o.2 in
        inr (
          o.0,
          o.1,
          (
            i.0,
            in_tail t ts i.0 i.1,
            i.2,
            λ u h b. elim (in_cases t ts u h) [
              | inl e ↦ absurd
                  (not_both (version_of i.0) (version_of t) (subst (λ z. below (version_of i.0) (version_of z) ≡ true) (sym e) b)
                  (s.0 i.0 i.1))
              | inr k ↦ i.3 u k b
            ],
          ),
        )
    by (inl o) = elim (cases_Bool (writes_key t key)) [
      | inl w ↦
          let l = left_some (version_of t) t.writes key w in
          inr (
            l.0,
            o.1 ∙ at_writes (version_of t) t.writes entries key ∙ l.2 (at entries key),
            (
              t,
              in_head t ts,
              l.2 None,
              λ u h b. elim (in_cases t ts u h) [
                | inl e ↦ absurd
                    (let impossible : true ≡ false = sym b ∙ ap (λ (z : TransactionValue). below (version_of t) (version_of z)) (sym e)
                    ∙ below_itself (version_of t) in cc)
                | inr k ↦ o.0 u k
              ],
            ),
          )
      | inr w ↦ inl (
        λ u h. elim (in_cases t ts u h) [
          | inl e ↦ ap (λ (z : TransactionValue). writes_key z key) (sym e) ∙ w
          | inr k ↦ o.0 u k
        ],
        o.1 ∙ at_writes (version_of t) t.writes entries key ∙ left_none (version_of t) t.writes key (at entries key) w,
      )
    ]

-- ---- by version

abbrev Entry : Type 0
Entry = Version × TransactionValue

abbrev entry : TransactionValue → Entry
entry t = (version_of t, t)

abbrev IsKeyed : Versions → Type 0
IsKeyed es = (e : Entry) → Contains es e → e.0 ≡ version_of e.1

sorted_versions : (ts : List TransactionValue) (known : Versions) → IsStrictlySortedBy version_cmp (keys_of known) →
    IsStrictlySortedBy version_cmp (keys_of (put_versions known ts))
sorted_versions [] known s = s
sorted_versions (t ∷ ts) known s =
    sorted_versions ts (insert_entry version_cmp known (version_of t) t) (sorted_put version_total version_exact (version_of t) t known s)

from_versions : (ts : List TransactionValue) (known : Versions) (e : Entry) → Contains (put_versions known ts) e → Contains known e ⊎
    ((t : TransactionValue) × Contains ts t × (entry t ≡ e))
from_versions [] known e h = inl h
from_versions (t ∷ ts) known e h = elim (from_versions ts (insert_entry version_cmp known (version_of t) t) e h) [
  | inl k ↦ elim (from_put version_total version_exact (version_of t) t known e k) [
    | inl i ↦ inr (t, in_head t ts, i)
    | inr i ↦ inl i
  ]
  | inr k ↦ inr (k.0, in_tail t ts k.0 k.1, k.2)
]

kept_versions : (ts : List TransactionValue) (known : Versions) (e : Entry) →
    ((u : TransactionValue) → Contains ts u → e.0 ≡ version_of u → entry u ≡ e) → Contains known e → Contains (put_versions known ts) e
kept_versions [] known e same h = h
kept_versions (t ∷ ts) known e same h =
    kept_versions ts (insert_entry version_cmp known (version_of t) t) e (λ u k. same u (in_tail t ts u k))
    (elim (kept_by_put version_total version_exact (version_of t) t known e h) [
      | inl i ↦ subst (λ z. Contains (insert_entry version_cmp known (version_of t) t) z) (same t (in_head t ts) i)
          (in_put version_total version_exact (version_of t) t known)
      | inr i ↦ i
    ])

to_versions : (ts : List TransactionValue) (known : Versions) → IsOneEach ts → (t : TransactionValue) → Contains ts t → Contains
    (put_versions known ts) (entry t)
to_versions [] known one t h = absurd (in_none t h)
to_versions (u ∷ us) known one t h = elim (in_cases u us t h) [
  | inl e ↦
      kept_versions us (insert_entry version_cmp known (version_of u) u) (entry t)
      (λ z k same. ap entry (one z t (in_tail u us z k) h (sym same)))
      (subst (λ z. Contains (insert_entry version_cmp known (version_of u) u) (entry z)) e
      (in_put version_total version_exact (version_of u) u known))
  | inr k ↦ to_versions us (insert_entry version_cmp known (version_of u) u) (λ x y i j. one x y (in_tail u us x i) (in_tail u us y j)) t k
]

abbrev second : Entry → TransactionValue
second e = e.1

pub in_order : (ts : List TransactionValue) (t : TransactionValue) → Contains (by_version ts) t → Contains ts t
in_order ts t h =
    let o = in_map second (put_versions [] ts) t h in
    elim (from_versions ts [] o.0 o.1) [
      | inl k ↦ absurd (in_none o.0 k)
      | inr k ↦ subst (λ z. Contains ts z) (ap second k.2 ∙ o.2) k.1
    ]

pub order_in : (ts : List TransactionValue) → IsOneEach ts → (t : TransactionValue) → Contains ts t → Contains (by_version ts) t
order_in ts one t h = map_in second (put_versions [] ts) (entry t) (to_versions ts [] one t h)

rising : (es : Versions) → IsStrictlySortedBy version_cmp (keys_of es) → IsKeyed es → IsRising (map second es)
unfolding IsStrictlySortedBy
rising [] s keyed = tt
rising (e ∷ es) s keyed = (
  λ u h.
      let o = in_map second es u h in
      let l : version_cmp e.0 (o.0).0 ≡ Less =
      All-contains (λ v. version_cmp e.0 v ≡ Less) (keys_of es) (o.0).0
      (All-from_recursion (λ v. version_cmp e.0 v ≡ Less) (keys_of es) s.0) (map_in (λ (z : Entry). z.0) es o.0 o.1) in
      let b : below e.0 (o.0).0 ≡ true = less_below e.0 (o.0).0 l in
      let p : e.0 ≡ version_of e.1 = keyed e (in_head e es) in
      let q : (o.0).0 ≡ version_of u = keyed o.0 (in_tail e es o.0 o.1) ∙ ap version_of o.2 in
      subst (λ z. below z (version_of u) ≡ true) p (subst (λ z. below e.0 z ≡ true) q b),
  rising es s.1 (λ z h. keyed z (in_tail e es z h)),
)

pub by_version_rises : (ts : List TransactionValue) → IsRising (by_version ts)
unfolding IsStrictlySortedBy
by_version_rises ts = rising (put_versions [] ts) (sorted_versions ts [] tt) (λ e h. elim (from_versions ts [] e h) [
  | inl k ↦ absurd (in_none e k)
  | inr k ↦ ap (λ (z : Entry). z.0) (sym k.2) ∙ ap (λ (z : Entry). version_of z.1) k.2
])

-- ---- the laws

pub latest_by : (These Those Some' Every : TransactionValue → Type 0) → ((t : TransactionValue) → These t → Some' t) →
    ((t : TransactionValue) → Every t → Those t) → (key : List ℕ) (o : Option Latest) → IsLatest These Those key o →
    IsLatest Some' Every key o
latest_by These Those Some' Every f g key None l = λ u h. l u (g u h)
latest_by These Those Some' Every f g key (Some x) l = (l.0, f l.0 l.1, l.2, λ u h. l.3 u (g u h))

pub replayed_latest : (ts : List TransactionValue) → IsRising ts → (key : List ℕ) → IsLatest (Contains ts) (Contains ts) key
    (at (replay [] ts) key)
replayed_latest ts s key = elim (replay_leaves ts s [] key) [
  | inl h ↦ let P : Option Latest → Type 0 = λ o. IsLatest (Contains ts) (Contains ts) key o in subst P (sym h.1) h.0
  | inr h ↦ let P : Option Latest → Type 0 = λ o. IsLatest (Contains ts) (Contains ts) key o in subst P (sym h.1) h.2
]

pub maps_are_latest : MapsAreLatest
maps_are_latest ts one key =
    latest_by (Contains (by_version ts)) (Contains (by_version ts)) (Contains ts) (Contains ts) (in_order ts) (order_in ts one) key
    (at (map_of ts) key)
    (replayed_latest (by_version ts) (by_version_rises ts) key)

pub maps_before_are_latest : MapsBeforeAreLatest
maps_before_are_latest ts one t key =
    let p : TransactionValue → Bool = λ u. below (version_of u) (version_of t) in
    latest_by (Contains (filter p ts)) (Contains (filter p ts)) (IsBelow ts t) (IsBelow ts t)
    (λ u h. in_filter p ts u h) (λ u h. filter_in p ts u h.0 h.1) key (at (before ts (version_of t)) key)
    (maps_are_latest (filter p ts) (λ x y h k. one x y (in_filter p ts x h).0 (in_filter p ts y k).0) key)

-- ---- there is one latest

pub one_latest : (P : TransactionValue → Type 0) → ((t u : TransactionValue) → P t → P u → version_of t ≡ version_of u → t ≡ u) →
    (key : List ℕ) (o p : Option Latest) → IsLatest P P key o → IsLatest P P key p → o ≡ p
one_latest P one key None None l k = refl
one_latest P one key None (Some x) l k = absurd (let impossible : true ≡ false = sym (left_written k.0 key x k.2).0 ∙ l k.0 k.1 in cc)
one_latest P one key (Some x) None l k = absurd (let impossible : true ≡ false = sym (left_written l.0 key x l.2).0 ∙ k l.0 l.1 in cc)
one_latest P one key (Some x) (Some y) l k = elim (cases_Bool (below (version_of l.0) (version_of k.0))) [
  | inl h ↦ absurd (let impossible : true ≡ false = sym (left_written k.0 key y k.2).0 ∙ l.3 k.0 k.1 h in cc)
  | inr h ↦ elim (cases_Bool (below (version_of k.0) (version_of l.0))) [
    | inl g ↦ absurd (let impossible : true ≡ false = sym (left_written l.0 key x l.2).0 ∙ k.3 l.0 l.1 g in cc)
    | inr g ↦ sym l.2 ∙ ap (λ z. leaves z key) (one l.0 k.0 l.1 k.1 (same_from_neither (version_of l.0) (version_of k.0) h g)) ∙ k.2
  ]
]

-- ---- order

sorted_writes : (v : Version) (ws : List WritePart) (entries : Replayed) → IsStrictlySortedBy (slice_cmp nat_cmp) (keys_of entries) →
    IsStrictlySortedBy (slice_cmp nat_cmp) (keys_of (put_writes v entries ws))
sorted_writes v [] entries s = s
sorted_writes v (w ∷ ws) entries s =
    sorted_writes v ws (insert_entry (slice_cmp nat_cmp) entries w.key (latest_of v w))
    (sorted_put nat_list_cmp_total exact_bytes w.key (latest_of v w) entries s)

sorted_replay : (ts : List TransactionValue) (entries : Replayed) → IsStrictlySortedBy (slice_cmp nat_cmp) (keys_of entries) →
    IsStrictlySortedBy (slice_cmp nat_cmp) (keys_of (replay entries ts))
sorted_replay [] entries s = s
sorted_replay (t ∷ ts) entries s =
    sorted_replay ts (put_writes (version_of t) entries t.writes) (sorted_writes (version_of t) t.writes entries s)

sorted_map : (ts : List TransactionValue) → IsStrictlySortedBy (slice_cmp nat_cmp) (keys_of (map_of ts))
unfolding IsStrictlySortedBy
sorted_map ts = sorted_replay (by_version ts) [] tt

pub maps_forget_order : MapsAreLatest → MapsForgetOrder
maps_forget_order maps ts us one to from =
    same_entries nat_list_cmp_total exact_bytes (map_of ts) (map_of us) (sorted_map ts) (sorted_map us)
    (λ key. one_latest (Contains ts) one key (at (map_of ts) key) (at (map_of us) key) (maps ts one key)
    (latest_by (Contains us) (Contains us) (Contains ts) (Contains ts) from to key (at (map_of us) key)
    (maps us (λ t u h k. one t u (from t h) (from u k)) key)))
