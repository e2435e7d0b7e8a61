-- Ids and places, through each change.
use Rattle.std.proofs.Common.{◌≡◌, ℕ, zero, suc, ◌+◌, Bool, true, false, cond, List, [], ◌∷◌}
use Rattle.std.proofs.Common.{◌++◌, length, Option, Some, None, refl, sym, ap, ◌∙◌, arith}
use Rattle.std.specs.Prelude.{option_map, position, slice_get, slice_set}
use Rattle.std.specs.List.{IsDistinct}
use Rattle.std.specs.Option.{option_map_or, option_and_then}
use Rattle.std.specs.Str.{bytes_eq}
use Rattle.std.specs.Cmp.Lexicographic.{bytes_decides}
use Rattle.std.proofs.lemmas.Option.{slice_get_within, get_or_from_slice_get, slice_get-map}
use Rattle.basil_types.specs.Transaction as transactions
use Rattle.basil_types.specs.Transaction.{TransactionValue}
use Rattle.basil_types.proofs.Walks.{position-cons}
use Rattle.txn_table.specs.Entries.{EntryValue, arrived}
use Rattle.txn_table.specs.Laws.{KeepsTransactions, IdsTellPlaces}
use Rattle.txn_table.specs.Tables.{id_of, ids_of, place_of, entry_with, changed}
use Rattle.txn_table.proofs.Places.{absent, one_place, entry_placed}

-- an entry stands at the place of its id
placed : (es : List EntryValue) (place : ℕ) (e : EntryValue) → IsDistinct bytes_eq (ids_of es) → slice_get es place ≡ Some e
    → place_of es (id_of e) ≡ Some place
placed es place e distinct h = by (place_of es (id_of e)) refl
  where
    got : slice_get (ids_of es) place ≡ Some (id_of e)
    got = slice_get-map id_of es place ∙ ap (option_map id_of) h

    by : (o : Option ℕ) → place_of es (id_of e) ≡ o → place_of es (id_of e) ≡ Some place
    by None p = absurd (absent (ids_of es) (id_of e) p place
        (id_of e) (slice_get_within (ids_of es) place (id_of e) got) (get_or_from_slice_get (ids_of es) place (id_of e) (id_of e) got))
    by (Some j) p = p ∙ ap Some (sym (one_place (ids_of es) (id_of e) j distinct p place
        (id_of e) (slice_get_within (ids_of es) place (id_of e) got) (get_or_from_slice_get (ids_of es) place (id_of e) (id_of e) got)))

-- ---- one more

plus_one : (n : ℕ) → n + 1 ≡ suc n
plus_one n = omega arith

map_none : (o : Option ℕ) → option_map (λ k. k + 1) o ≡ None → o ≡ None
map_none None e = refl
map_none (Some k) e = absurd cc

behind : (p : List ℕ → Bool) (xs : List (List ℕ)) (x : List ℕ) → p x ≡ true → position p xs ≡ None
    → position p (xs ++ x ∷ []) ≡ Some (length xs)
behind p [] x h n = position-cons p x [] ∙ ap (λ b. cond b (Some 0) (option_map (λ k. k + 1) (position p []))) h
behind p (y ∷ ys) x h n = by (behind p ys x h) (p y) refl
  where
    by : (position p ys ≡ None → position p (ys ++ x ∷ []) ≡ Some (length ys)) → (b : Bool) → p y ≡ b
        → position p (y ∷ (ys ++ x ∷ [])) ≡ Some (suc (length ys))
    by next true e = absurd (let impossible : Some 0
        ≡ None = sym (position-cons p y ys ∙ ap (λ b. cond b (Some 0) (option_map (λ k. k + 1) (position p ys))) e) ∙ n in cc)
    by next false e =
        let none : position p ys
        ≡ None = map_none (position p ys) (sym (position-cons p y ys
        ∙ ap (λ b. cond b (Some 0) (option_map (λ k. k + 1) (position p ys))) e) ∙ n) in
        position-cons p y (ys ++ x ∷ []) ∙ ap (λ b. cond b (Some 0) (option_map (λ k. k + 1) (position p (ys ++ x ∷ [])))) e
        ∙ ap (option_map (λ k. k + 1)) (next none) ∙ ap Some (plus_one (length ys))

before : (p : List ℕ → Bool) (xs ys : List (List ℕ)) (k : ℕ) → position p xs ≡ Some k → position p (xs ++ ys) ≡ Some k
before p [] ys k h = absurd (let impossible : None ≡ Some k = h in cc)
before p (x ∷ xs) ys k h = by (before p xs ys) (p x) refl
  where
    later : ((i : ℕ) → position p xs ≡ Some i → position p (xs ++ ys) ≡ Some i) → (o : Option ℕ) → position p xs ≡ o
        → option_map (λ k. k + 1) o ≡ Some k → option_map (λ k. k + 1) (position p (xs ++ ys)) ≡ Some k
    later next None e g = absurd cc
    later next (Some i) e g = ap (option_map (λ k. k + 1)) (next i e) ∙ g

    by : ((i : ℕ) → position p xs ≡ Some i → position p (xs ++ ys) ≡ Some i) → (b : Bool) → p x ≡ b → position p (x ∷ (xs ++ ys)) ≡ Some k
    by next true e =
        position-cons p x (xs ++ ys) ∙ ap (λ b. cond b (Some 0) (option_map (λ k. k + 1) (position p (xs ++ ys)))) e
        ∙ sym (ap (λ b. cond b (Some 0) (option_map (λ k. k + 1) (position p xs))) e) ∙ sym (position-cons p x xs) ∙ h
    by next false e =
        position-cons p x (xs ++ ys) ∙ ap (λ b. cond b (Some 0) (option_map (λ k. k + 1) (position p (xs ++ ys)))) e
        ∙ later next (position p xs) refl (sym (position-cons p x xs
        ∙ ap (λ b. cond b (Some 0) (option_map (λ k. k + 1) (position p xs))) e) ∙ h)

ids_push : (es : List EntryValue) (e : EntryValue) → ids_of (es ++ e ∷ []) ≡ ids_of es ++ id_of e ∷ []
ids_push [] e = refl
ids_push (d ∷ es) e = ap (λ l. id_of d ∷ l) (ids_push es e)

arrives : (es : List EntryValue) (t : TransactionValue) → place_of es (transactions.id t) ≡ None
    → place_of (es ++ arrived t ∷ []) (transactions.id t) ≡ Some (length es)
arrives es t n =
    let x = transactions.id t in
    ap (position (bytes_eq x)) (ids_push es (arrived t)) ∙ behind (bytes_eq x) (ids_of es) x ((bytes_decides x x).1 refl) n
    ∙ ap Some (long es)
  where
    long : (es : List EntryValue) → length (ids_of es) ≡ length es
    long [] = refl
    long (e ∷ es) = ap suc (long es)

stays : (es : List EntryValue) (t : TransactionValue) (id : List ℕ) (place : ℕ) → place_of es id ≡ Some place
    → place_of (es ++ arrived t ∷ []) id ≡ Some place
stays es t id place h = ap (position (bytes_eq id)) (ids_push es (arrived t))
    ∙ before (bytes_eq id) (ids_of es) (transactions.id t ∷ []) place h

-- ---- a change

pub changed_some : (f : EntryValue → EntryValue) (es : List EntryValue) (p : ℕ) (e : EntryValue) → slice_get es p ≡ Some e
    → changed f p es ≡ slice_set es p (f e)
changed_some f es p e h = ap (λ (o : Option EntryValue). option_map_or (λ (e : EntryValue). slice_set es p (f e)) o es) h

pub changed_none : (f : EntryValue → EntryValue) (es : List EntryValue) (p : ℕ) → slice_get es p ≡ None → changed f p es ≡ es
changed_none f es p h = ap (λ (o : Option EntryValue). option_map_or (λ (e : EntryValue). slice_set es p (f e)) o es) h

got_set : (es : List EntryValue) (p : ℕ) (e x : EntryValue) → slice_get es p ≡ Some e → slice_get (slice_set es p x) p ≡ Some x
got_set [] p e x h = absurd cc
got_set (d ∷ es) zero e x h = refl
got_set (d ∷ es) (suc p) e x h = got_set es p e x h

set_other : (es : List EntryValue) (p q : ℕ) (x : EntryValue) → (q ≡ p → ⊥) → slice_get (slice_set es p x) q ≡ slice_get es q
set_other [] p q x n = refl
set_other (d ∷ es) zero zero x n = absurd (n refl)
set_other (d ∷ es) zero (suc q) x n = refl
set_other (d ∷ es) (suc p) zero x n = refl
set_other (d ∷ es) (suc p) (suc q) x n = set_other es p q x (λ e. n (ap suc e))

ids_set : (es : List EntryValue) (p : ℕ) (e x : EntryValue) → slice_get es p ≡ Some e → id_of x ≡ id_of e
    → ids_of (slice_set es p x) ≡ ids_of es
ids_set [] p e x h s = refl
ids_set (d ∷ es) zero e x h s = let is : d ≡ e = cc in ap (λ i. i ∷ ids_of es) (s ∙ ap id_of (sym is))
ids_set (d ∷ es) (suc p) e x h s = ap (λ l. id_of d ∷ l) (ids_set es p e x h s)

module _ (f : EntryValue → EntryValue) (es : List EntryValue) (p : ℕ) (keeps : KeepsTransactions f) where
  same_ids : ids_of (changed f p es) ≡ ids_of es
  same_ids = by (slice_get es p) refl
    where
      by : (o : Option EntryValue) → slice_get es p ≡ o → ids_of (changed f p es) ≡ ids_of es
      by None h = ap ids_of (changed_none f es p h)
      by (Some e) h = ap ids_of (changed_some f es p e h) ∙ ids_set es p e (f e) h (ap transactions.id (keeps e))

  unmoved : (id : List ℕ) → place_of (changed f p es) id ≡ place_of es id
  unmoved id = ap (position (bytes_eq id)) same_ids

  there : slice_get (changed f p es) p ≡ option_map f (slice_get es p)
  there = by (slice_get es p) refl
    where
      by : (o : Option EntryValue) → slice_get es p ≡ o → slice_get (changed f p es) p ≡ option_map f (slice_get es p)
      by None h = ap (λ l. slice_get l p) (changed_none f es p h) ∙ h ∙ sym (ap (option_map f) h)
      by (Some e) h = ap (λ l. slice_get l p) (changed_some f es p e h) ∙ got_set es p e (f e) h ∙ sym (ap (option_map f) h)

  elsewhere : (q : ℕ) → (q ≡ p → ⊥) → slice_get (changed f p es) q ≡ slice_get es q
  elsewhere q n = by (slice_get es p) refl
    where
      by : (o : Option EntryValue) → slice_get es p ≡ o → slice_get (changed f p es) q ≡ slice_get es q
      by None h = ap (λ l. slice_get l q) (changed_none f es p h)
      by (Some e) h = ap (λ l. slice_get l q) (changed_some f es p e h) ∙ set_other es p q (f e) n

  changes : (id : List ℕ) → place_of es id ≡ Some p → entry_with (changed f p es) id ≡ option_map f (entry_with es id)
  changes id h =
      ap (option_and_then (slice_get (changed f p es))) (unmoved id ∙ h) ∙ there
      ∙ sym (ap (λ o. option_map f (option_and_then (slice_get es) o)) h)

  others : (id : List ℕ) → (place_of es id ≡ Some p → ⊥) → entry_with (changed f p es) id ≡ entry_with es id
  others id n = ap (option_and_then (slice_get (changed f p es))) (unmoved id) ∙ by (place_of es id) refl
    where
      by : (o : Option ℕ) → place_of es id ≡ o
          → option_and_then (slice_get (changed f p es)) (place_of es id) ≡ option_and_then (slice_get es) (place_of es id)
      by None h = ap (option_and_then (slice_get (changed f p es))) h ∙ sym (ap (option_and_then (slice_get es)) h)
      by (Some q) h = ap (option_and_then (slice_get (changed f p es))) h ∙ elsewhere q (λ e. n (h ∙ ap Some e))
          ∙ sym (ap (option_and_then (slice_get es)) h)

pub ids_tell_places : IdsTellPlaces
ids_tell_places = record {
  found = entry_placed;
  placed = placed;
  arrives = arrives;
  stays = stays;
  unmoved = λ f es p id k. unmoved f es p k id;
  changes = λ f es p id k. changes f es p k id;
  others = λ f es p id k. others f es p k id;
}
