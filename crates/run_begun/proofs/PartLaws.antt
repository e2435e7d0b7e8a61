-- Parts that have their sizes and ascend by key still do with one more.
use Rattle.std.proofs.Common.{◌≡◌, ℕ, ◌+◌, Bool, true, false, cond, List, [], ◌∷◌, map}
use Rattle.std.proofs.Common.{length, Option, Some, None, refl, sym, ap, subst, ◌∙◌}
use Rattle.std.specs.Prelude.{not, position, option_map, Result, Ok, Err, OnOk, OnErr}
use Rattle.std.specs.List.{position_from, AllByRecursion}
use Rattle.std.specs.Cmp.Lexicographic.{slice_cmp}
use Rattle.std.specs.Ordering.{nat_cmp, match_ordering, ordering_reverse, is_lt}
use Rattle.std.specs.declared.cmp.Ordering.{Ordering}
use Rattle.std.specs.declared.cmp.Ordering.TheVariants.{Less, Equal, Greater}
use Rattle.std.proofs.lemmas.Cmp.{nat_list_cmp_total}
use Rattle.std.proofs.lemmas.Iterator.Adapters.{position_from-zero}
use Rattle.std.proofs.lemmas.Map.Lookups.{exact_bytes}
use Rattle.basil_types.specs.declared.transaction.parts.ReadPart.{ReadPart}
use Rattle.basil_types.specs.declared.transaction.parts.WritePart.{WritePart}
use Rattle.basil_types.specs.Built.{key_fault, or_else, order_fault, order_fault_from, read_fits, size_fault, write_fits}
use Rattle.basil_types.specs.Texts.{key_below}
use Rattle.basil_types.specs.Transaction.{key_of_read, key_of_write}
use Rattle.client_core.specs.Slots.{put_write}
use Rattle.cluster_run.specs.Events.{put_claim}
use Rattle.node_steps.specs.Lists.{by_key, put}

-- ---- tests of all

module _ {A : Type 0} (fits : A → Bool) where
  all_fit : (i : ℕ) (xs : List A) → position_from (λ x. not (fits x)) i xs ≡ None → AllByRecursion (λ x. fits x ≡ true) xs
  all_fit i [] e = tt
  all_fit i (x ∷ xs) e = by (fits x) refl e (all_fit (i + 1) xs)
    where
      by : (b : Bool) → fits x ≡ b → cond (not b) (Some i) (position_from (λ y. not (fits y)) (i + 1) xs) ≡ None →
          (position_from (λ y. not (fits y)) (i + 1) xs ≡ None → AllByRecursion (λ y. fits y ≡ true) xs) →
          (fits x ≡ true) × AllByRecursion (λ y. fits y ≡ true) xs
      by true q h rec = (q, rec h)
      by false q h rec = absurd cc

  none_from : (i : ℕ) (xs : List A) → AllByRecursion (λ x. fits x ≡ true) xs → position_from (λ x. not (fits x)) i xs ≡ None
  none_from i [] all = refl
  none_from i (x ∷ xs) all =
      ap (λ b. cond (not b) (Some i) (position_from (λ y. not (fits y)) (i + 1) xs)) all.0 ∙ none_from (i + 1) xs all.1

  all_put : (cmp : A → A → Ordering) (a : A) (xs : List A) → fits a ≡ true → AllByRecursion (λ x. fits x ≡ true) xs →
      AllByRecursion (λ x. fits x ≡ true) (put cmp a xs)
  all_put cmp a [] here all = (here, tt)
  all_put cmp a (x ∷ xs) here all = by (cmp a x) (all_put cmp a xs here all.1)
    where
      by : (o : Ordering) → AllByRecursion (λ y. fits y ≡ true) (put cmp a xs) →
          AllByRecursion (λ y. fits y ≡ true) (match_ordering o (a ∷ x ∷ xs) (a ∷ xs) (x ∷ put cmp a xs))
      by Less rec = (here, all)
      by Equal rec = (here, all.1)
      by Greater rec = (all.0, rec)

  none_put : (cmp : A → A → Ordering) (a : A) (xs : List A) → fits a ≡ true → position (λ x. not (fits x)) xs ≡ None →
      position (λ x. not (fits x)) (put cmp a xs) ≡ None
  none_put cmp a xs here e =
      position_from-zero (λ x. not (fits x)) (put cmp a xs)
      ∙ none_from 0 (put cmp a xs) (all_put cmp a xs here (all_fit 0 xs (sym (position_from-zero (λ x. not (fits x)) xs) ∙ e)))

-- ---- keys that ascend

module _ {A : Type 0} (key : A → List ℕ) where
  abbrev Rises : List ℕ → List A → Type 0
  Rises before [] = Unit {0}
  Rises before (x ∷ xs) = (key_below before (key x) ≡ true) × Rises (key x) xs

  rises : (place : ℕ) (before : List ℕ) (xs : List A) → order_fault_from place before (map key xs) ≡ None → Rises before xs
  rises place before [] e = tt
  rises place before (x ∷ xs) e = by (key_below before (key x)) refl e (rises (place + 1) (key x) xs)
    where
      by : (b : Bool) → key_below before (key x) ≡ b →
          cond b (order_fault_from (place + 1) (key x) (map key xs)) (Some place) ≡ None →
          (order_fault_from (place + 1) (key x) (map key xs) ≡ None → Rises (key x) xs) →
          (key_below before (key x) ≡ true) × Rises (key x) xs
      by true q h rec = (q, rec h)
      by false q h rec = absurd cc

  in_order : (place : ℕ) (before : List ℕ) (xs : List A) → Rises before xs → order_fault_from place before (map key xs) ≡ None
  in_order place before [] r = refl
  in_order place before (x ∷ xs) r =
      ap (λ b. cond b (order_fault_from (place + 1) (key x) (map key xs)) (Some place)) r.0 ∙ in_order (place + 1) (key x) xs r.1

  above_of : (a b : List ℕ) → slice_cmp nat_cmp a b ≡ Greater → key_below b a ≡ true
  above_of a b e = ap is_lt (nat_list_cmp_total.antisymm b a ∙ ap ordering_reverse e)

  rises_put : (before : List ℕ) (a : A) (xs : List A) → key_below before (key a) ≡ true → Rises before xs →
      Rises before (put (by_key key) a xs)
  rises_put before a [] h r = (h, tt)
  rises_put before a (x ∷ xs) h r = by (slice_cmp nat_cmp (key a) (key x)) refl (λ above. rises_put (key x) a xs above r.1)
    where
      by : (o : Ordering) → slice_cmp nat_cmp (key a) (key x) ≡ o →
          (key_below (key x) (key a) ≡ true → Rises (key x) (put (by_key key) a xs)) →
          Rises before (match_ordering o (a ∷ x ∷ xs) (a ∷ xs) (x ∷ put (by_key key) a xs))
      by Less e rec = (h, (ap is_lt e, r.1))
      by Equal e rec = (h, subst (λ k. Rises k xs) (sym (exact_bytes (key a) (key x) e)) r.1)
      by Greater e rec = (r.0, rec (above_of (key a) (key x) e))

  order_put : (a : A) (xs : List A) → order_fault (map key xs) ≡ None → order_fault (map key (put (by_key key) a xs)) ≡ None
  order_put a [] e = refl
  order_put a (x ∷ xs) e = by (slice_cmp nat_cmp (key a) (key x)) refl
    where
      up : Rises (key x) xs
      up = rises 1 (key x) xs e

      by : (o : Ordering) → slice_cmp nat_cmp (key a) (key x) ≡ o →
          order_fault (map key (match_ordering o (a ∷ x ∷ xs) (a ∷ xs) (x ∷ put (by_key key) a xs))) ≡ None
      by Less e = in_order 1 (key a) (x ∷ xs) (ap is_lt e, up)
      by Equal e = in_order 1 (key a) xs (subst (λ k. Rises k xs) (sym (exact_bytes (key a) (key x) e)) up)
      by Greater e = in_order 1 (key x) (put (by_key key) a xs) (rises_put (key x) a xs (above_of (key a) (key x) e) up)

-- ---- faults of parts

neither : {A : Type 0} (a b : Option A) → or_else a b ≡ None → (a ≡ None) × (b ≡ None)
neither (Some x) b e = absurd cc
neither None b e = (refl, e)

no_fault : {A : Type 0} (a b : Option A) → a ≡ None → b ≡ None → or_else a b ≡ None
no_fault (Some x) b e f = absurd cc
no_fault None b e f = f

unmapped : {A B : Type 0} (f : A → B) (o : Option A) → option_map f o ≡ None → o ≡ None
unmapped f (Some x) e = absurd cc
unmapped f None e = refl

sized_write : (w : WritePart) (reads : List ReadPart) (writes : List WritePart) → write_fits w ≡ true →
    size_fault reads writes ≡ None → size_fault reads (put_write w writes) ≡ None
sized_write w reads writes fits e =
    let parts = neither _ _ e in
    no_fault _ _ parts.0 (ap (option_map (λ place. length reads + place))
    (none_put write_fits (by_key key_of_write) w writes fits (unmapped _ _ parts.1)))

sized_read : (r : ReadPart) (reads : List ReadPart) (writes : List WritePart) → read_fits r ≡ true →
    size_fault reads writes ≡ None → size_fault (put_claim r reads) writes ≡ None
sized_read r reads writes fits e =
    let parts = neither _ _ e in
    no_fault _ _ (none_put read_fits (by_key key_of_read) r reads fits parts.0)
    (ap (option_map (λ place. length (put_claim r reads) + place)) (unmapped _ _ parts.1))

ascend_write : (w : WritePart) (reads : List ReadPart) (writes : List WritePart) → key_fault reads writes ≡ None →
    key_fault reads (put_write w writes) ≡ None
ascend_write w reads writes e =
    let parts = neither _ _ e in
    no_fault _ _ parts.0 (ap (option_map (λ place. length reads + place)) (order_put key_of_write w writes (unmapped _ _ parts.1)))

ascend_read : (r : ReadPart) (reads : List ReadPart) (writes : List WritePart) → key_fault reads writes ≡ None →
    key_fault (put_claim r reads) writes ≡ None
ascend_read r reads writes e =
    let parts = neither _ _ e in
    no_fault _ _ (order_put key_of_read r reads parts.0)
    (ap (option_map (λ place. length (put_claim r reads) + place)) (unmapped _ _ parts.1))

-- parts have their sizes and ascend by key; they still do with one more, and where memory was wanting
pub record HasParts (reads : List ReadPart) (writes : List WritePart) : Type 0 where
  pub sized : size_fault reads writes ≡ None
  pub ascend : key_fault reads writes ≡ None

pub with_write : {A E : Type 0} (result : Result A E) (w : WritePart) (reads : List ReadPart) (old new : List WritePart) →
    OnOk result (new ≡ put_write w old) → OnErr result (new ≡ old) → write_fits w ≡ true → HasParts reads old → HasParts reads new
with_write (Ok a) w reads old new put same fits has =
    subst (HasParts reads) (sym put)
    (record { sized = sized_write w reads old fits has.sized; ascend = ascend_write w reads old has.ascend })
with_write (Err e) w reads old new put same fits has = subst (HasParts reads) (sym same) has

pub with_read : {A E : Type 0} (result : Result A E) (r : ReadPart) (old new : List ReadPart) (writes : List WritePart) →
    OnOk result (new ≡ put_claim r old) → OnErr result (new ≡ old) → read_fits r ≡ true → HasParts old writes → HasParts new writes
with_read (Ok a) r old new writes put same fits has =
    subst (λ reads. HasParts reads writes) (sym put)
    (record { sized = sized_read r old writes fits has.sized; ascend = ascend_read r old writes has.ascend })
with_read (Err e) r old new writes put same fits has = subst (λ reads. HasParts reads writes) (sym same) has
