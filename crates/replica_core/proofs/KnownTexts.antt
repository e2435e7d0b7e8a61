-- The known transaction of an id, whatever other bytes of this id came.
use Rattle.std.proofs.Common.{◌≡◌, ℕ, cond, List, [], ◌∷◌, ◌++◌, Option, Some, None, refl, sym, ap, ◌∙◌}
use Rattle.std.specs.Prelude.{option_map, is_some, slice_get}
use Rattle.std.specs.Option.{option_map_or, option_and_then}
use Rattle.basil_types.specs.Transaction.{TransactionValue, id}
use Rattle.txn_table.specs.Entries.{EntryValue, arrived}
use Rattle.txn_table.specs.Laws.{IdsTellPlaces}
use Rattle.txn_table.specs.Tables.{id_of, place_of}
use Rattle.replica_core.specs.Known.{known_of, with_known}

abbrev text : List EntryValue → TransactionValue → Option ℕ → TransactionValue
text es t o = option_map_or (λ (e : EntryValue). e.transaction) (option_and_then (slice_get es) o) t

named_by : (o : Option EntryValue) (t : TransactionValue) (i : List ℕ) → option_map id_of o ≡ Some i
    → id (option_map_or (λ (e : EntryValue). e.transaction) o t) ≡ i
named_by None t i h = absurd cc
named_by (Some e) t i h = let z : id_of e ≡ i = cc in z

named_at : IdsTellPlaces → (es : List EntryValue) (t : TransactionValue) (o : Option ℕ) → place_of es (id t) ≡ o → id (text es t o) ≡ id t
named_at law es t None e = refl
named_at law es t (Some p) e = named_by (slice_get es p) t (id t) (law.found es (id t) p e)

pub known_named : IdsTellPlaces → (es : List EntryValue) (t : TransactionValue) → id (known_of es t) ≡ id t
known_named law es t = named_at law es t (place_of es (id t)) refl

pub known_arrives : IdsTellPlaces → (es : List EntryValue) (t : TransactionValue) → with_known es (known_of es t) ≡ with_known es t
known_arrives law es t = by (place_of es (id t)) refl
  where
    by : (o : Option ℕ) → place_of es (id t) ≡ o → with_known es (known_of es t) ≡ with_known es t
    by None e = ap (λ o. with_known es (text es t o)) e
    by (Some p) e =
        let at : place_of es (id (known_of es t)) ≡ Some p = ap (place_of es) (known_named law es t) ∙ e in
        ap (λ o. cond (is_some o) es (es ++ arrived (known_of es t) ∷ [])) at
        ∙ sym (ap (λ o. cond (is_some o) es (es ++ arrived t ∷ [])) e)

-- where it is at a place, and where it isn't known
pub known_at : (es : List EntryValue) (t : TransactionValue) (p : ℕ) (e : EntryValue) → place_of es (id t) ≡ Some p
    → slice_get es p ≡ Some e → known_of es t ≡ e.transaction
known_at es t p e at got = ap (text es t) at ∙ ap (λ (o : Option EntryValue). option_map_or (λ (e : EntryValue). e.transaction) o t) got

pub known_not : (es : List EntryValue) (t : TransactionValue) → place_of es (id t) ≡ None → known_of es t ≡ t
known_not es t none = ap (text es t) none
