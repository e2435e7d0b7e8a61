-- What is logged, by ids, and ascending numbers with one more.
use Rattle.std.proofs.Common.{◌≡◌, ℕ, suc, ◌+◌, ◌≤◌, Bool, true, false, cond, List, [], ◌∷◌, ◌++◌, map, Option, Some, None, refl, sym, ap}
use Rattle.std.proofs.Common.{◌∙◌, arith}
use Rattle.std.specs.Prelude.{option_map, option_copied, position, find, insert, nat_le, slice_get}
use Rattle.std.specs.Borrow.{Bor}
use Rattle.std.specs.Cmp.{nat_cmp_is}
use Rattle.std.specs.Map.{lookup}
use Rattle.std.specs.Ordering.{nat_cmp, match_ordering}
use Rattle.std.specs.declared.cmp.Ordering.TheVariants.{Less, Equal, Greater}
use Rattle.std.specs.Str.{bytes_eq}
use Rattle.std.proofs.lemmas.Slice.Eq.{bytes_eq-Decides}
use Rattle.std.proofs.lemmas.Bool.{leb-true, leb-false}
use Rattle.basil_types.proofs.Walks.{position-cons}
use Rattle.indexmap.specs.IndexMap.{insert_entry}
use Rattle.node_steps.specs.Lists.{put}
use Rattle.replica_core.specs.declared.log.Log.{Log}
use Rattle.replica_core.specs.Known.{is_of, put_logged}
use Rattle.replica_core.specs.Logs.{logged_as}
use Rattle.replica_core.specs.Replicas.{LoggedEntry}

swapped : (a b : List ℕ) (r : Bool) → bytes_eq a b ≡ r → bytes_eq b a ≡ r
swapped a b true e = (bytes_eq-Decides b a).1 (sym ((bytes_eq-Decides a b).0 e))
swapped a b false e = by (bytes_eq b a) refl
  where
    by : (r : Bool) → bytes_eq b a ≡ r → bytes_eq b a ≡ false
    by true h = let t : bytes_eq a b ≡ true = (bytes_eq-Decides a b).1 (sym ((bytes_eq-Decides b a).0 h)) in absurd cc
    by false h = h

entry_of : List ℕ × Log → LoggedEntry
entry_of e = logged_as e.0 e.1

pub found : (id : List ℕ) (es : List (List ℕ × Log))
    → option_map (logged_as id) (lookup (bytes_eq id) es) ≡ find (is_of id) (map (λ e. logged_as e.0 e.1) es)
found id [] = refl
found id ((k, v) ∷ es) = by (found id es) (bytes_eq id k) refl
  where
    by : option_map (logged_as id) (lookup (bytes_eq id) es) ≡ find (is_of id) (map (λ e. logged_as e.0 e.1) es) → (b : Bool)
        → bytes_eq id k ≡ b
        → option_map (logged_as id) (lookup (bytes_eq id) ((k, v) ∷ es)) ≡ find (is_of id) (map (λ e. logged_as e.0 e.1) ((k, v) ∷ es))
    by next true e =
        let same : id ≡ k = (bytes_eq-Decides id k).0 e in
        ap (λ b. option_map (logged_as id) (cond b (Some v) (lookup (bytes_eq id) es))) e
        ∙ ap (λ i. Some (logged_as i v)) same
        ∙ sym (ap (λ b. cond b (Some (logged_as k v)) (find (is_of id) (map (λ e. logged_as e.0 e.1) es))) (swapped id k true e))
    by next false e =
        ap (λ b. option_map (logged_as id) (cond b (Some v) (lookup (bytes_eq id) es))) e
        ∙ next
        ∙ sym (ap (λ b. cond b (Some (logged_as k v)) (find (is_of id) (map (λ e. logged_as e.0 e.1) es))) (swapped id k false e))

pub put_in : (id : List ℕ) (l : Log) (es : List (List ℕ × Log))
    → map (λ e. logged_as e.0 e.1) (insert_entry bytes_eq es id l) ≡ put_logged (logged_as id l) (map (λ e. logged_as e.0 e.1) es)
put_in id l [] = refl
put_in id l ((k, v) ∷ es) = by (put_in id l es) (bytes_eq id k) refl
  where
    by : map (λ e. logged_as e.0 e.1) (insert_entry bytes_eq es id l) ≡ put_logged (logged_as id l) (map (λ e. logged_as e.0 e.1) es)
        → (b : Bool) → bytes_eq id k ≡ b
        → map (λ e. logged_as e.0 e.1) (insert_entry bytes_eq ((k, v) ∷ es) id l) ≡ put_logged (logged_as id l)
        (map (λ e. logged_as e.0 e.1) ((k, v) ∷ es))
    by next true e =
        let same : id ≡ k = (bytes_eq-Decides id k).0 e in
        ap (λ b. map (λ e. logged_as e.0 e.1) (cond b ((k, l) ∷ es) ((k, v) ∷ insert_entry bytes_eq es id l))) e
        ∙ ap (λ i. logged_as i l ∷ map (λ e. logged_as e.0 e.1) es) (sym same)
        ∙ sym
        (ap
        (λ b. cond b (logged_as id l ∷ map (λ e. logged_as e.0 e.1) es)
        (logged_as k v ∷ put_logged (logged_as id l) (map (λ e. logged_as e.0 e.1) es))) (swapped id k true e))
    by next false e =
        ap (λ b. map (λ e. logged_as e.0 e.1) (cond b ((k, l) ∷ es) ((k, v) ∷ insert_entry bytes_eq es id l))) e
        ∙ ap (λ r. logged_as k v ∷ r) next
        ∙ sym
        (ap
        (λ b. cond b (logged_as id l ∷ map (λ e. logged_as e.0 e.1) es)
        (logged_as k v ∷ put_logged (logged_as id l) (map (λ e. logged_as e.0 e.1) es))) (swapped id k false e))

-- ---- ascending numbers

first_placed : (b : Bool) (o : Option ℕ) (p : ℕ) → cond b (Some 0) (option_map (λ k. k + 1) o) ≡ Some p → b ≡ true → p ≡ 0
first_placed true o p h e = let i : 0 ≡ p = cc in sym i
first_placed false o p h e = absurd cc

later_placed : (o : Option ℕ) (p : ℕ) → option_map (λ k. k + 1) o ≡ Some p → (q : ℕ) × (o ≡ Some q) × (p ≡ suc q)
later_placed None p h = absurd cc
later_placed (Some q) p h = let i : q + 1 ≡ p = cc in (q, refl, omega (arith, i))

none_placed : (b : Bool) (o : Option ℕ) → cond b (Some 0) (option_map (λ k. k + 1) o) ≡ None → (b ≡ false) × (o ≡ None)
none_placed true o h = absurd cc
none_placed false None h = (refl, refl)
none_placed false (Some k) h = absurd cc

above : (n x : ℕ) → nat_le n x ≡ false → nat_cmp n x ≡ Greater
above n x e = sym (nat_cmp_is n x Greater (leb-false n x e))

pub put_last : (n : ℕ) (xs : List ℕ) → position (λ k. nat_le n k) xs ≡ None → put nat_cmp n xs ≡ xs ++ n ∷ []
put_last n [] h = refl
put_last n (x ∷ xs) h =
    let z = none_placed (nat_le n x) (position (λ k. nat_le n k) xs) (sym (position-cons (λ k. nat_le n k) x xs) ∙ h) in
    ap (λ o. match_ordering o (n ∷ x ∷ xs) (n ∷ xs) (x ∷ put nat_cmp n xs)) (above n x z.0) ∙ ap (λ l. x ∷ l) (put_last n xs z.1)

pub put_same : (n : ℕ) (xs : List ℕ) (p : ℕ) → position (λ k. nat_le n k) xs ≡ Some p → slice_get xs p ≡ Some n → put nat_cmp n xs ≡ xs
put_same n [] p h s = absurd cc
put_same n (x ∷ xs) p h s = by (put_same n xs) (nat_le n x) refl
  where
    by : ((q : ℕ) → position (λ k. nat_le n k) xs ≡ Some q → slice_get xs q ≡ Some n → put nat_cmp n xs ≡ xs) → (b : Bool) → nat_le n x ≡ b
        → put nat_cmp n (x ∷ xs) ≡ x ∷ xs
    by next true e =
        let z = first_placed (nat_le n x) (position (λ k. nat_le n k) xs) p (sym (position-cons (λ k. nat_le n k) x xs) ∙ h) e in
        let got : Some x ≡ Some n = sym (ap (slice_get (x ∷ xs)) z) ∙ s in
        let is : n ≡ x = cc in
        ap (λ o. match_ordering o (n ∷ x ∷ xs) (n ∷ xs) (x ∷ put nat_cmp n xs)) (sym (nat_cmp_is n x Equal is)) ∙ ap (λ k. k ∷ xs) is
    by next false e =
        let z = later_placed (position (λ k. nat_le n k) xs) p
        (sym (ap (λ b. cond b (Some 0) (option_map (λ k. k + 1) (position (λ k. nat_le n k) xs))) e)
        ∙ sym (position-cons (λ k. nat_le n k) x xs) ∙ h) in
        ap (λ o. match_ordering o (n ∷ x ∷ xs) (n ∷ xs) (x ∷ put nat_cmp n xs)) (above n x e)
        ∙ ap (λ l. x ∷ l) (next z.0 z.1 (sym (ap (slice_get (x ∷ xs)) z.2) ∙ s))

pub put_between : (n : ℕ) (xs : List ℕ) (p : ℕ) → position (λ k. nat_le n k) xs ≡ Some p → (slice_get xs p ≡ Some n → ⊥)
    → put nat_cmp n xs ≡ insert xs p n
put_between n [] p h s = absurd cc
put_between n (x ∷ xs) p h s = by (put_between n xs) (nat_le n x) refl
  where
    by : ((q : ℕ) → position (λ k. nat_le n k) xs ≡ Some q → (slice_get xs q ≡ Some n → ⊥) → put nat_cmp n xs ≡ insert xs q n) → (b : Bool)
        → nat_le n x ≡ b → put nat_cmp n (x ∷ xs) ≡ insert (x ∷ xs) p n
    by next true e =
        let z = first_placed (nat_le n x) (position (λ k. nat_le n k) xs) p (sym (position-cons (λ k. nat_le n k) x xs) ∙ h) e in
        let other : n ≡ x → ⊥ = λ is. s (ap (slice_get (x ∷ xs)) z ∙ ap Some (sym is)) in
        let le : n ≤ x = leb-true n x e in
        ap (λ o. match_ordering o (n ∷ x ∷ xs) (n ∷ xs) (x ∷ put nat_cmp n xs)) (sym (nat_cmp_is n x Less (omega (arith, le, other))))
        ∙ sym (ap (λ k. insert (x ∷ xs) k n) z)
    by next false e =
        let z = later_placed (position (λ k. nat_le n k) xs) p
        (sym (ap (λ b. cond b (Some 0) (option_map (λ k. k + 1) (position (λ k. nat_le n k) xs))) e)
        ∙ sym (position-cons (λ k. nat_le n k) x xs) ∙ h) in
        ap (λ o. match_ordering o (n ∷ x ∷ xs) (n ∷ xs) (x ∷ put nat_cmp n xs)) (above n x e)
        ∙ ap (λ l. x ∷ l) (next z.0 z.1 (λ g. s (ap (slice_get (x ∷ xs)) z.2 ∙ g)))
        ∙ sym (ap (λ k. insert (x ∷ xs) k n) z.2)

pub copied : {A B : Type 0} (f : A → B) (r : Option (Bor A)) → option_map (λ x. f x.now) r ≡ option_map f (option_copied r)
copied f None = refl
copied f (Some x) = refl
