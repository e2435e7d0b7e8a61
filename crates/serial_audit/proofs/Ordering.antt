-- Lent transactions in the order of their versions.
use Rattle.std.proofs.Common.{◌≡◌, ℕ, suc, ◌+◌, ◌<◌, Bor, Bool, true, false, cond, Option, Some}
use Rattle.std.proofs.Common.{None, List, [], ◌∷◌, length, drop, get_or, refl, ap, sym, ◌∙◌, add-one}
use Rattle.std.specs.Prelude.{map}
use Rattle.std.proofs.Math.Seq.{drop-cons}
use Rattle.std.specs.BTreeMap.{insert_entry}
use Rattle.std.specs.Ordering.{match_ordering}
use Rattle.std.specs.declared.cmp.Ordering.{Ordering}
use Rattle.std.specs.declared.cmp.Ordering.TheVariants.{Less, Equal, Greater}
use Rattle.basil_types.specs.declared.version.Version.{Version}
use Rattle.basil_types.specs.Replayed.{Versions, put_versions, by_version, replay}
use Rattle.basil_types.specs.Transaction.{TransactionValue, version_of}
use Rattle.basil_types.specs.Version.{version_cmp}
use Rattle.serial_audit.specs.Maps.{map_below}
use Rattle.serial_audit.proofs.Filters.{all_pass}
use Rattle.serial_audit.specs.Parts.{is_under, those_under, lent, lent_by_version}

pub lent_put : (v : Version) (t : Bor TransactionValue) (es : List (Version × Bor TransactionValue))
    → lent_by_version (insert_entry version_cmp es v t) ≡ insert_entry version_cmp (lent_by_version es) v t.now
lent_put v t [] = refl
lent_put v t (e ∷ es) = by (version_cmp v e.0) (lent_put v t es)
  where
    by : (o : Ordering) → lent_by_version (insert_entry version_cmp es v t) ≡ insert_entry version_cmp (lent_by_version es) v t.now
        → lent_by_version (match_ordering o ((v, t) ∷ e ∷ es) ((e.0, t) ∷ es) (e ∷ insert_entry version_cmp es v t))
        ≡ match_ordering o ((v, t.now) ∷ (e.0, e.1.now) ∷ lent_by_version es) ((e.0, t.now) ∷ lent_by_version es)
        ((e.0, e.1.now) ∷ insert_entry version_cmp (lent_by_version es) v t.now)
    by Less later = refl
    by Equal later = refl
    by Greater later = ap (λ z. (e.0, e.1.now) ∷ z) later

pub lent_values : (es : List (Version × Bor TransactionValue))
    → lent (map (λ (e : Version × Bor TransactionValue). e.1) es) ≡ map (λ (e : Version × TransactionValue). e.1) (lent_by_version es)
lent_values [] = refl
lent_values (e ∷ es) = ap (λ z. e.1.now ∷ z) (lent_values es)

-- one of the transactions, or none
pub put_one : (bound : Option Version) (m : Versions) (t : TransactionValue) (c : Bool) → c ≡ is_under bound (version_of t)
    → put_versions m (those_under bound (t ∷ [])) ≡ cond c (insert_entry version_cmp m (version_of t) t) m
put_one bound m t c e = ap (λ b. put_versions m (cond b (t ∷ []) [])) (sym e) ∙ by c
  where
    by : (b : Bool) → put_versions m (cond b (t ∷ []) []) ≡ cond b (insert_entry version_cmp m (version_of t) t) m
    by true = refl
    by false = refl

more : (bound : Option Version) (m : Versions) (t : TransactionValue) (ts : List TransactionValue)
    → put_versions m (those_under bound (t ∷ ts)) ≡ put_versions (put_versions m (those_under bound (t ∷ []))) (those_under bound ts)
more bound m t ts = by (is_under bound (version_of t))
  where
    by : (b : Bool) → put_versions m (cond b (t ∷ those_under bound ts) (those_under bound ts))
        ≡ put_versions (put_versions m (cond b (t ∷ []) [])) (those_under bound ts)
    by true = refl
    by false = refl

-- the transaction at a place is put
pub put_next : (bound : Option Version) (all m new : Versions) (ts : List TransactionValue) (i : ℕ) (t : TransactionValue)
    → i < length ts → t ≡ get_or ts i t → new ≡ put_versions m (those_under bound (t ∷ []))
    → all ≡ put_versions m (those_under bound (drop i ts)) → all ≡ put_versions new (those_under bound (drop (i + 1) ts))
put_next bound all m new ts i t lt is put so_far =
    let here : drop i ts ≡ t ∷ drop (suc i) ts = drop-cons ts i t lt ∙ ap (λ z. z ∷ drop (suc i) ts) (sym is) in
    so_far
    ∙ ap (λ z. put_versions m (those_under bound z)) here
    ∙ more bound m t (drop (suc i) ts)
    ∙ ap (λ z. put_versions z (those_under bound (drop (suc i) ts))) (sym put)
    ∙ ap (λ j. put_versions new (those_under bound (drop j ts))) (sym (add-one i))

-- ---- below no bound

pub all_ordered : (ts : List TransactionValue) → by_version (those_under None ts) ≡ by_version ts
all_ordered ts = ap by_version (all_pass ts)

pub map_ordered : (bound : Option Version) (ts : List TransactionValue) → replay [] (by_version (those_under bound ts)) ≡ map_below bound ts
map_ordered None ts = ap (replay []) (all_ordered ts)
map_ordered (Some v) ts = refl
