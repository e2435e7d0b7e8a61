-- Where an id stands in a list of ids.
use Rattle.std.proofs.Common.{◌≡◌, ℕ, zero, suc, ◌+◌, ◌<◌, Bool, true, false, cond, List, [], ◌∷◌}
use Rattle.std.proofs.Common.{◌++◌, length, get_or, Option, Some, None, refl, sym, ap, ◌∙◌, arith}
use Rattle.std.specs.Prelude.{option_map, position, slice_get}
use Rattle.std.specs.List.{IsDistinct}
use Rattle.std.specs.Str.{bytes_eq}
use Rattle.std.specs.Cmp.Lexicographic.{bytes_decides}
use Rattle.std.proofs.lemmas.Bool.{false≢true}
use Rattle.std.proofs.lemmas.List.Quantifiers.{position-Some}
use Rattle.std.proofs.lemmas.Map.Keys.{apart_from_distinct}
use Rattle.std.proofs.lemmas.Option.{slice_get-map, slice_get-get_or}
use Rattle.basil_types.proofs.Walks.{position-cons}
use Rattle.txn_table.specs.Entries.{EntryValue}
use Rattle.txn_table.specs.Tables.{id_of, ids_of, place_of}

none_mapped : (o : Option ℕ) → option_map (λ k. k + 1) o ≡ None → o ≡ None
none_mapped None e = refl
none_mapped (Some k) e = absurd cc

-- where no item passes, the first doesn't, and none behind it
none-cons : {A : Type 0} (p : A → Bool) (x : A) (xs : List A) → position p (x ∷ xs) ≡ None → (p x ≡ false) × (position p xs ≡ None)
none-cons p x xs e = by (p x) refl
  where
    by : (b : Bool) → p x ≡ b → (p x ≡ false) × (position p xs ≡ None)
    by true h =
        let some : position p (x ∷ xs) ≡ Some 0 = position-cons p x xs
        ∙ ap (λ b. cond b (Some 0) (option_map (λ k. k + 1) (position p xs))) h in
        absurd cc
    by false h = (
      h,
      none_mapped (position p xs) (sym (position-cons p x xs ∙ ap (λ b. cond b (Some 0) (option_map (λ k. k + 1) (position p xs))) h)
          ∙ e),
    )

none_passes : {A : Type 0} (p : A → Bool) (xs : List A) → position p xs ≡ None → (k : ℕ) (d : A) → k < length xs → p (get_or xs k d) ≡ false
none_passes p [] e k d h = absurd (omega arith)
none_passes p (x ∷ xs) e zero d h = (none-cons p x xs e).0
none_passes p (x ∷ xs) e (suc k) d h = none_passes p xs (none-cons p x xs e).1 k d (omega arith)

equal : (a b : List ℕ) → a ≡ b → bytes_eq a b ≡ true
equal a b e = (bytes_decides a b).1 e

-- an id that has no place isn't in the list
pub absent : (ids : List (List ℕ)) (id : List ℕ) → position (bytes_eq id) ids ≡ None → (k : ℕ) (d : List ℕ) → k < length ids
    → get_or ids k d ≡ id → ⊥
absent ids id none k d h is = false≢true (sym (none_passes (bytes_eq id) ids none k d h) ∙ equal id (get_or ids k d) (sym is))

-- the last id of a list has a place
pub last_placed : (ids : List (List ℕ)) (id : List ℕ) → position (bytes_eq id) (ids ++ id ∷ []) ≡ None → ⊥
last_placed [] id e = false≢true (sym (none-cons (bytes_eq id) id [] e).0 ∙ equal id id refl)
last_placed (x ∷ ids) id e = last_placed ids id (none-cons (bytes_eq id) x (ids ++ id ∷ []) e).1

-- where ids are distinct, an id stands at its place alone
pub one_place : (ids : List (List ℕ)) (id : List ℕ) (i : ℕ) → IsDistinct bytes_eq ids → position (bytes_eq id) ids ≡ Some i
    → (k : ℕ) (d : List ℕ) → k < length ids → get_or ids k d ≡ id → k ≡ i
one_place ids id i distinct at k d h is =
    let found = position-Some (bytes_eq id) ids i d at in
    let here : id ≡ get_or ids i d = (bytes_decides id (get_or ids i d)).0 found.1 in
    let not_before : k < i → ⊥ = λ before. false≢true (sym (found.2 k before) ∙ equal id (get_or ids k d) (sym is)) in
    let not_behind : i < k → ⊥ = λ behind. false≢true (sym (apart_from_distinct bytes_eq ids i k d distinct behind h)
    ∙ equal (get_or ids i d) (get_or ids k d) (sym here ∙ sym is)) in
    omega (arith, not_before, not_behind)

-- at the place of an id stands an entry of that id
pub entry_placed : (es : List EntryValue) (id : List ℕ) (i : ℕ) → place_of es id ≡ Some i → option_map id_of (slice_get es i) ≡ Some id
entry_placed es id i at =
    let found = position-Some (bytes_eq id) (ids_of es) i id at in
    let here : id ≡ get_or (ids_of es) i id = (bytes_decides id (get_or (ids_of es) i id)).0 found.1 in
    sym (slice_get-map id_of es i) ∙ slice_get-get_or (ids_of es) i id found.0 ∙ ap Some (sym here)
