-- What searches tell together, and the walk over slots.
use Rattle.std.proofs.Common.{◌≡◌, ℕ, Bool, true, false, List, [], ◌∷◌, Option, Some, None, refl, sym, ap, ◌∙◌, arith}
use Rattle.std.specs.Prelude.{min, ◌||◌}
use Rattle.std.specs.List.{reduce, list_any, filter_map, cons_option, fold}
use Rattle.mv_store.specs.declared.hits.Hits.{Hits}
use Rattle.mv_store.specs.Hits.{least, joined, no_hits}

pub least_none : (a : Option ℕ) → least a None ≡ a
least_none None = refl
least_none (Some a) = refl

min_assoc : (a b c : ℕ) → min (min a b) c ≡ min a (min b c)
min_assoc a b c = omega arith

min_comm' : (a b : ℕ) → min a b ≡ min b a
min_comm' a b = omega arith

min_twice : (n a b : ℕ) → min n (min a b) ≡ min (min n a) (min n b)
min_twice n a b = omega arith

min_once : (n : ℕ) → n ≡ min n n
min_once n = omega arith

min_left : (n a : ℕ) → min n a ≡ min (min n a) n
min_left n a = omega arith

min_right : (n a : ℕ) → min n a ≡ min n (min n a)
min_right n a = omega arith

pub least_assoc : (a b c : Option ℕ) → least (least a b) c ≡ least a (least b c)
least_assoc None b c = refl
least_assoc (Some a) None c = refl
least_assoc (Some a) (Some b) None = refl
least_assoc (Some a) (Some b) (Some c) = ap Some (min_assoc a b c)

pub least_comm : (a b : Option ℕ) → least a b ≡ least b a
least_comm None b = sym (least_none b)
least_comm (Some a) None = refl
least_comm (Some a) (Some b) = ap Some (min_comm' a b)

-- a place counts once
pub least_twice : (n : ℕ) (a b : Option ℕ) → least (Some n) (least a b) ≡ least (least (Some n) a) (least (Some n) b)
least_twice n None None = ap Some (min_once n)
least_twice n None (Some b) = ap Some (min_right n b)
least_twice n (Some a) None = ap Some (min_left n a)
least_twice n (Some a) (Some b) = ap Some (min_twice n a b)

pub reduce_cons : (x : ℕ) (xs : List ℕ) → reduce min (x ∷ xs) ≡ least (Some x) (reduce min xs)
reduce_cons x [] = refl
reduce_cons x (y ∷ ys) = reduce_cons (min x y) ys ∙ least_assoc (Some x) (Some y) (reduce min ys)
    ∙ ap (least (Some x)) (sym (reduce_cons y ys))

-- ---- two searches

pub both : (a b : Bool) (x y : Option ℕ) → a ≡ b → x ≡ y
    → (let h : Hits = record { any = a; committed = x } in h) ≡ record { any = b; committed = y }
both a b x y e f = ap (λ (a : Bool). let h : Hits = record { any = a; committed = x } in h) e
    ∙ ap (λ (x : Option ℕ). let h : Hits = record { any = b; committed = x } in h) f

or_assoc : (a b c : Bool) → ((a || b) || c) ≡ (a || (b || c))
or_assoc true b c = refl
or_assoc false b c = refl

or_false : (a : Bool) → (a || false) ≡ a
or_false true = refl
or_false false = refl

pub joined_assoc : (a b c : Hits) → joined (joined a b) c ≡ joined a (joined b c)
joined_assoc a b c = both _ _ _ _ (or_assoc a.any b.any c.any) (least_assoc a.committed b.committed c.committed)

pub joined_none : (a : Hits) → joined a no_hits ≡ a
joined_none a = both _ _ _ _ (or_false a.any) (least_none a.committed)

-- ---- a walk

joined_first : (a : Hits) → joined no_hits a ≡ a
joined_first a = refl

abbrev told : {A : Type 0} → (A → Hits) → List A → Hits
told hit xs = record { any = list_any (λ x. (hit x).any) xs; committed = reduce min (filter_map (λ x. (hit x).committed) xs) }

one_more : {A : Type 0} (hit : A → Hits) (x : A) (xs : List A) → joined (hit x) (told hit xs) ≡ told hit (x ∷ xs)
one_more hit x xs = both _ _ _ _ refl (by (hit x).committed)
  where
    by : (o : Option ℕ) → least o (reduce min (filter_map (λ x. (hit x).committed) xs))
        ≡ reduce min (cons_option o (filter_map (λ x. (hit x).committed) xs))
    by None = refl
    by (Some n) = sym (reduce_cons n (filter_map (λ x. (hit x).committed) xs))

folded : {A : Type 0} (hit : A → Hits) (xs : List A) (found : Hits)
    → fold (λ found x. joined found (hit x)) found xs ≡ joined found (told hit xs)
folded hit [] found = sym (joined_none found)
folded hit (x ∷ xs) found =
    folded hit xs (joined found (hit x)) ∙ joined_assoc found (hit x) (told hit xs) ∙ ap (joined found) (one_more hit x xs)

-- a walk finds what is found of each
pub walk_finds : {A : Type 0} (hit : A → Hits) (xs : List A) → fold (λ found x. joined found (hit x)) no_hits xs ≡ told hit xs
walk_finds hit xs = folded hit xs no_hits
