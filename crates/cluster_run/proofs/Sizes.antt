-- What a replica signs has its sizes.
use Rattle.cluster_run.proofs.Members.{in_cases, in_head, in_rest}
use Rattle.std.proofs.Common.{◌≡◌, ℕ, zero, suc, ◌+◌, ◌*◌, ◌<◌, ◌^◌, Bool, true, false, cond, List, [], ◌∷◌, ◌++◌, map, Option, Some, None}
use Rattle.std.proofs.Common.{refl, sym, ap, subst, ◌∙◌, inl, inr, arith}
use Rattle.std.specs.Prelude.{Contains, slice_get, slice_set, is_some, option_map, option_and_then, filter, max, unwrap_or, nat_lt, nat_le}
use Rattle.std.specs.List.{fold}
use Rattle.std.specs.Option.{option_map_or}
use Rattle.std.specs.Str.{bytes_eq}
use Rattle.std.proofs.lemmas.Bool.{cases_Bool}
use Rattle.std.proofs.lemmas.List.Elements.{Contains-append_cases}
use Rattle.basil_types.specs.Lists.{AreItems}
use Rattle.basil_types.specs.declared.version.Version.{Version}
use Rattle.basil_types.specs.Transaction.{TransactionValue, IsTransaction, id, version_of}
use Rattle.basil_types.specs.Version.{genesis}
use Rattle.basil_types.specs.Words.{AreWords, FitsVersion}
use Rattle.fallback_views.specs.Views.{raised, reached_by, greatest, next}
use Rattle.frame_views.specs.declared.bounds.Bounds.{Bounds}
use Rattle.frame_views.specs.Fitting.{FitsRead, FitsReply, after_reply}
use Rattle.frame_views.specs.Signed.{committed_told, version_told}
use Rattle.frame_views.specs.Values.{ReadValue, ReplyValue}
use Rattle.txn_table.specs.Entries.{EntryValue, OutcomeValue, arrived}
use Rattle.txn_table.specs.Tables.{id_of, place_of, changed}
use Rattle.replica_core.specs.Replicas.{ReplicaSelf, LoggedEntry}
use Rattle.replica_core.specs.Known.{changed_at, logged_with, put_logged, proven_at, proven_entry, with_known}
use Rattle.replica_core.specs.Reads.{read_words}
use Rattle.cluster_run.specs.Answering.{AreNumbers}
use Rattle.cluster_run.proofs.Decides.{length_id}
use Rattle.cluster_run.proofs.Finding.{altered, changed_altered}
use Rattle.cluster_run.proofs.Marking.{none_in}

pub got_in : {X : Type 0} (xs : List X) (p : ℕ) (x : X) → slice_get xs p ≡ Some x → Contains xs x
got_in [] p x h = absurd cc
got_in (y ∷ ys) zero x h = let is : y ≡ x = cc in subst (λ z. Contains (y ∷ ys) z) is (in_head y ys)
got_in (y ∷ ys) (suc p) x h = in_rest y x ys (got_in ys p x h)

-- ---- entries

abbrev pub Spelled : List EntryValue → Type 0
Spelled es = (e : EntryValue) → Contains es e → IsTransaction e.transaction

pub spelled_push : (es : List EntryValue) (t : TransactionValue) → IsTransaction t → Spelled es → Spelled (es ++ arrived t ∷ [])
spelled_push es t k all e i = elim (Contains-append_cases es (arrived t ∷ []) e i) [
  | inl j ↦ all e j
  | inr q ↦ elim (in_cases e (arrived t) [] q) [
    | inl s ↦ subst (λ (e : EntryValue). IsTransaction e.transaction) s k
    | inr n ↦ absurd (none_in e n)
  ]
]

pub spelled_known : (es : List EntryValue) (t : TransactionValue) → IsTransaction t → Spelled es → Spelled (with_known es t)
spelled_known es t k all = by (is_some (place_of es (id t)))
  where
    by : (b : Bool) → Spelled (cond b es (es ++ arrived t ∷ []))
    by true = all
    by false = spelled_push es t k all

module _ (f : EntryValue → EntryValue) (keeps : (e : EntryValue) → (f e).transaction ≡ e.transaction) where
  spelled_altered : (x : List ℕ) (es : List EntryValue) → Spelled es → Spelled (altered f x es)
  spelled_altered x [] all e i = absurd (none_in e i)
  spelled_altered x (d ∷ es) all e i = by (bytes_eq x (id_of d)) i (λ j. spelled_altered x es (λ u k. all u (in_rest d u es k)) e j)
    where
      by : (b : Bool) → Contains (cond b (f d ∷ es) (d ∷ altered f x es)) e → (Contains (altered f x es) e → IsTransaction e.transaction) →
          IsTransaction e.transaction
      by true i r = elim (in_cases e (f d) es i) [
        | inl s ↦ subst (λ (e : EntryValue). IsTransaction e.transaction) s (subst IsTransaction (sym (keeps d)) (all d (in_head d es)))
        | inr j ↦ all e (in_rest d e es j)
      ]
      by false i r =
          elim (in_cases e d (altered f x es) i) [
            | inl s ↦ subst (λ (e : EntryValue). IsTransaction e.transaction) s (all d (in_head d es))
            | inr j ↦ r j
          ]

  pub spelled_at : (x : List ℕ) (es : List EntryValue) → Spelled es → Spelled (changed_at f x es)
  spelled_at x es all = subst Spelled (sym (changed_altered f x es)) (spelled_altered x es all)

  set_spelled : (es : List EntryValue) (p : ℕ) (x : EntryValue) → IsTransaction x.transaction → Spelled es → Spelled (slice_set es p x)
  set_spelled [] p x k all e i = absurd (none_in e i)
  set_spelled (d ∷ es) zero x k all e i =
      elim (in_cases e x es i) [ inl s ↦ subst (λ (e : EntryValue). IsTransaction e.transaction) s k | inr j ↦ all e (in_rest d e es j) ]
  set_spelled (d ∷ es) (suc p) x k all e i = elim (in_cases e d (slice_set es p x) i) [
    | inl s ↦ subst (λ (e : EntryValue). IsTransaction e.transaction) s (all d (in_head d es))
    | inr j ↦ set_spelled es p x k (λ u q. all u (in_rest d u es q)) e j
  ]

  pub spelled_changed : (p : ℕ) (es : List EntryValue) → Spelled es → Spelled (changed f p es)
  spelled_changed p es all = by (slice_get es p) refl
    where
      by : (o : Option EntryValue) → slice_get es p ≡ o → Spelled (option_map_or (λ e. slice_set es p (f e)) o es)
      by None h = all
      by (Some e) h = set_spelled es p (f e) (subst IsTransaction (sym (keeps e)) (all e (got_in es p e h))) all

-- ---- what is logged

abbrev pub Numbered : List LoggedEntry → Type 0
Numbered ls = (l : LoggedEntry) → Contains ls l → AreNumbers l.cell

pub numbered_put : (l : LoggedEntry) (ls : List LoggedEntry) → AreNumbers l.cell → Numbered ls → Numbered (put_logged l ls)
numbered_put l [] k all m i =
    elim (in_cases m l [] i) [ inl s ↦ subst (λ (x : LoggedEntry). AreNumbers x.cell) s k | inr n ↦ absurd (none_in m n) ]
numbered_put l (x ∷ xs) k all m i = by (bytes_eq x.id l.id) i (λ j. numbered_put l xs k (λ u q. all u (in_rest x u xs q)) m j)
  where
    by : (b : Bool) → Contains (cond b (l ∷ xs) (x ∷ put_logged l xs)) m → (Contains (put_logged l xs) m → AreNumbers m.cell) →
        AreNumbers m.cell
    by true i r = elim (in_cases m l xs i) [ inl s ↦ subst (λ (x : LoggedEntry). AreNumbers x.cell) s k | inr j ↦ all m (in_rest x m xs j) ]
    by false i r =
        elim (in_cases m x (put_logged l xs) i) [
          | inl s ↦ subst (λ (x : LoggedEntry). AreNumbers x.cell) s (all x (in_head x xs))
          | inr j ↦ r j
        ]

pub logged_in : (ls : List LoggedEntry) (x : List ℕ) (l : LoggedEntry) → logged_with ls x ≡ Some l → Contains ls l
logged_in [] x l h = absurd cc
logged_in (d ∷ ls) x l h = elim (cases_Bool (bytes_eq d.id x)) [
  | inl i ↦
      let q : Some d ≡ Some l = sym (ap (λ b. cond b (Some d) (logged_with ls x)) i) ∙ h in
      let is : d ≡ l = cc in
      subst (λ z. Contains (d ∷ ls) z) is (in_head d ls)
  | inr n ↦ in_rest d l ls (logged_in ls x l (sym (ap (λ b. cond b (Some d) (logged_with ls x)) n) ∙ h))
]

-- ---- versions

version_fits : (t : TransactionValue) → IsTransaction t → FitsVersion (version_of t)
version_fits t k = record { time = k.time; id = length_id t }

genesis_fits : FitsVersion genesis
genesis_fits = record { time = omega arith; id = refl }

committed_fits : (es : List EntryValue) → Spelled es → (o : Option (Version × ℕ)) →
    FitsVersion (committed_told (option_and_then (λ (x : Version × ℕ). proven_at es x.1) o))
committed_fits es all None = genesis_fits
committed_fits es all (Some x) = by (slice_get es x.1) refl
  where
    entry : (e : EntryValue) → IsTransaction e.transaction → (o : Option OutcomeValue) →
        FitsVersion (committed_told (option_map (λ c. Rattle.replica_core.specs.Known.proven e.transaction c) o))
    entry e k None = genesis_fits
    entry e k (Some c) = version_fits e.transaction k

    by : (o : Option EntryValue) → slice_get es x.1 ≡ o → FitsVersion (committed_told (option_and_then proven_entry o))
    by None h = genesis_fits
    by (Some e) h = entry e (all e (got_in es x.1 e h)) e.outcome

prepared_fits : (es : List EntryValue) → Spelled es → (o : Option (Version × ℕ)) →
    FitsVersion (version_told (option_map (λ (e : EntryValue). e.transaction) (option_and_then (λ (x : Version × ℕ). slice_get es x.1) o)))
prepared_fits es all None = genesis_fits
prepared_fits es all (Some x) = by (slice_get es x.1) refl
  where
    by : (o : Option EntryValue) → slice_get es x.1 ≡ o → FitsVersion (version_told (option_map (λ (e : EntryValue). e.transaction) o))
    by None h = genesis_fits
    by (Some e) h = version_fits e.transaction (all e (got_in es x.1 e h))

pub read_words_fit : (me : ReplicaSelf) (es : List EntryValue) (m : ReadValue) → Spelled es → FitsRead m → AreWords (read_words me es m)
read_words_fit me es m all f = record {
  some = f.key.some;
  short = f.key.short;
  time = f.time;
  committed = committed_fits es all _;
  prepared = prepared_fits es all _;
}

-- ---- raised views

abbrev pub Small : List ℕ → Type 0
Small vs = (v : ℕ) → Contains vs v → v < 2 ^ 64

small_filter : (p : ℕ → Bool) (vs : List ℕ) → Small vs → Small (filter p vs)
small_filter p [] h v i = absurd (none_in v i)
small_filter p (x ∷ xs) h v i = by (p x) i (λ j. small_filter p xs (λ u q. h u (in_rest x u xs q)) v j)
  where
    by : (b : Bool) → Contains (cond b (x ∷ filter p xs) (filter p xs)) v → (Contains (filter p xs) v → v < 2 ^ 64) → v < 2 ^ 64
    by true i r = elim (in_cases v x (filter p xs) i) [ inl s ↦ subst (λ (n : ℕ). n < 2 ^ 64) s (h x (in_head x xs)) | inr j ↦ r j ]
    by false i r = r i

abbrev SmallOption : Option ℕ → Type 0
SmallOption None = Unit {0}
SmallOption (Some v) = v < 2 ^ 64

fold_small : (xs : List ℕ) (a : ℕ) → a < 2 ^ 64 → Small xs → fold max a xs < 2 ^ 64
fold_small [] a l h = l
fold_small (x ∷ xs) a l h =
    let small : x < 2 ^ 64 = h x (in_head x xs) in
    fold_small xs (max a x) (omega (arith, l, small)) (λ v i. h v (in_rest x v xs i))

small_greatest : (vs : List ℕ) → Small vs → SmallOption (greatest vs)
small_greatest [] h = tt
small_greatest (x ∷ xs) h = fold_small xs x (h x (in_head x xs)) (λ v i. h v (in_rest x v xs i))

raised_by : (current : ℕ) (o c : Option ℕ) → current < 2 ^ 64 → SmallOption c →
    option_map_or (λ over. max (next over) current) o (unwrap_or c current) < 2 ^ 64
raised_by current None None l h = l
raised_by current None (Some v) l h = h
raised_by current (Some over) c l h = omega (arith, l)

pub raised_small : (f : ℕ) (views : List ℕ) (current : ℕ) → Small views → current < 2 ^ 64 → raised f views current < 2 ^ 64
raised_small f views current h l =
    raised_by current (greatest (reached_by (3 * f + 1) views)) (greatest (filter (nat_lt current) (reached_by (f + 1) views))) l
    (small_greatest (filter (nat_lt current) (reached_by (f + 1) views))
    (small_filter (nat_lt current) (reached_by (f + 1) views)
    (small_filter (λ view. nat_le (f + 1) (Rattle.fallback_views.specs.Views.count views view)) views h)))

pub replies_small : (b : Bounds) (floor : ℕ) (rs : List ReplyValue) → AreItems (FitsReply b) after_reply floor rs →
    Small (map (λ (r : ReplyValue). r.current) rs)
replies_small b floor [] h v i = absurd (none_in v i)
replies_small b floor (r ∷ rs) h v i = elim (in_cases v r.current (map (λ (r : ReplyValue). r.current) rs) i) [
  | inl s ↦ subst (λ (n : ℕ). n < 2 ^ 64) s h.0.current
  | inr j ↦ replies_small b (r.replica + 1) rs h.1 v j
]
