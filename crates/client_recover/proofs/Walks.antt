-- Lists: the first of each kind, one more at the end, and maps of lists.
use Rattle.std.proofs.Common.{◌≡◌, ℕ, zero, suc, ◌+◌, min, length-append, ◌≤◌, ◌<◌, Bool, true, false, cond, List, [], ◌∷◌, ◌++◌, length}
use Rattle.std.proofs.Common.{map, take, Option, Some, None, refl, sym, ap, ◌∙◌, append-nil, arith}
use Rattle.std.specs.Prelude.{filter, filter_map, find, ◌||◌, ◌&&◌, option_map}
use Rattle.std.specs.List.{list_any, range_with_len, cons_option}
use Rattle.std.proofs.Math.ListN.{length-map}
use Rattle.std.proofs.lemmas.List.{map-append, length-take, take-append-le, take_all}
use Rattle.std.proofs.lemmas.List.Elements.{filter_map-append}
use Rattle.basil_types.specs.Built.{or_else}
use Rattle.node_steps.specs.Lists.{firsts_after, firsts}

-- ---- maps

pub list_any-map : {A B : Type 0} (f : A → B) (p : B → Bool) (xs : List A) → list_any p (map f xs) ≡ list_any (λ x. p (f x)) xs
list_any-map f p [] = refl
list_any-map f p (x ∷ xs) = ap (λ b. p (f x) || b) (list_any-map f p xs)

pub filter-map : {A B : Type 0} (f : A → B) (p : B → Bool) (xs : List A) → filter p (map f xs) ≡ map f (filter (λ x. p (f x)) xs)
filter-map f p [] = refl
filter-map {A} {B} f p (x ∷ xs) = by (p (f x)) (filter-map f p xs)
  where
    by : (b : Bool) → filter p (map f xs) ≡ map f (filter (λ x. p (f x)) xs) →
        cond b (f x ∷ filter p (map f xs)) (filter p (map f xs)) ≡ map f (cond b (x ∷ filter (λ x. p (f x)) xs) (filter (λ x. p (f x)) xs))
    by true e = ap (λ ys. f x ∷ ys) e
    by false e = e

pub find-map : {A B : Type 0} (f : A → B) (p : B → Bool) (xs : List A) → find p (map f xs) ≡ option_map f (find (λ x. p (f x)) xs)
find-map f p [] = refl
find-map {A} {B} f p (x ∷ xs) = by (p (f x)) (find-map f p xs)
  where
    by : (b : Bool) → find p (map f xs) ≡ option_map f (find (λ x. p (f x)) xs) →
        cond b (Some (f x)) (find p (map f xs)) ≡ option_map f (cond b (Some x) (find (λ x. p (f x)) xs))
    by true e = refl
    by false e = e

pub filter_map-option_map : {A B C : Type 0} (f : B → C) (h : A → Option B) (xs : List A) →
    filter_map (λ x. option_map f (h x)) xs ≡ map f (filter_map h xs)
filter_map-option_map f h [] = refl
filter_map-option_map {A} {B} {C} f h (x ∷ xs) = by (h x) (filter_map-option_map f h xs)
  where
    rest : List C
    rest = filter_map (λ x. option_map f (h x)) xs

    by : (o : Option B) → rest ≡ map f (filter_map h xs) → cons_option (option_map f o) rest ≡ map f (cons_option o (filter_map h xs))
    by None e = e
    by (Some y) e = ap (λ ys. f y ∷ ys) e

pub map-map : {A B C : Type 0} (f : A → B) (g : B → C) (xs : List A) → map g (map f xs) ≡ map (λ x. g (f x)) xs
map-map f g [] = refl
map-map f g (x ∷ xs) = ap (λ ys. g (f x) ∷ ys) (map-map f g xs)

pub find-filter : {A : Type 0} (p q : A → Bool) (xs : List A) → find q (filter p xs) ≡ find (λ x. p x && q x) xs
find-filter p q [] = refl
find-filter {A} p q (x ∷ xs) = by (p x) (find-filter p q xs)
  where
    by : (b : Bool) → find q (filter p xs) ≡ find (λ x. p x && q x) xs →
        find q (cond b (x ∷ filter p xs) (filter p xs)) ≡ cond (b && q x) (Some x) (find (λ x. p x && q x) xs)
    by true e = ap (λ o. cond (q x) (Some x) o) e
    by false e = e

-- ---- one more at the end

swap : (a b c : Bool) → ((a || b) || c) ≡ (b || (a || c))
swap true true c = refl
swap true false c = refl
swap false true c = refl
swap false false c = refl

pub firsts_after-push : {A : Type 0} (like : A → A → Bool) (before xs : List A) (x : A) →
    firsts_after like before (xs ++ x ∷ [])
    ≡ firsts_after like before xs ++ cond (list_any (like x) before || list_any (like x) (firsts_after like before xs)) [] (x ∷ [])
firsts_after-push {A} like before [] x = by (list_any (like x) before)
  where
    by : (b : Bool) → cond b [] (x ∷ []) ≡ cond (b || false) [] (x ∷ [])
    by true = refl
    by false = refl
firsts_after-push {A} like before (y ∷ ys) x =
    by (list_any (like y) before) (firsts_after-push like before ys x) (firsts_after-push like (y ∷ before) ys x)
  where
    by : (b : Bool) →
        firsts_after like before (ys ++ x ∷ [])
        ≡ firsts_after like before ys ++ cond (list_any (like x) before || list_any (like x) (firsts_after like before ys)) []
        (x ∷ []) →
        firsts_after like (y ∷ before) (ys ++ x ∷ [])
        ≡ firsts_after like (y ∷ before) ys ++ cond
        ((like x y || list_any (like x) before) || list_any (like x) (firsts_after like (y ∷ before) ys)) [] (x ∷ []) →
        cond b (firsts_after like before (ys ++ x ∷ [])) (y ∷ firsts_after like (y ∷ before) (ys ++ x ∷ []))
        ≡ cond b (firsts_after like before ys) (y ∷ firsts_after like (y ∷ before) ys)
        ++ cond (list_any (like x) before || list_any (like x)
        (cond b (firsts_after like before ys) (y ∷ firsts_after like (y ∷ before) ys))) [] (x ∷ [])
    by true e k = e
    by false e k =
        ap (λ zs. y ∷ zs)
        (k ∙ ap (λ b. firsts_after like (y ∷ before) ys ++ cond b [] (x ∷ []))
        (swap (like x y) (list_any (like x) before) (list_any (like x) (firsts_after like (y ∷ before) ys))))

pub firsts-push : {A : Type 0} (like : A → A → Bool) (xs : List A) (x : A) →
    firsts like (xs ++ x ∷ []) ≡ firsts like xs ++ cond (list_any (like x) (firsts like xs)) [] (x ∷ [])
firsts-push like xs x = firsts_after-push like [] xs x

-- ---- numbers in a row, and what each gives

row-suc : (a n : ℕ) → range_with_len a (suc n) ≡ range_with_len a n ++ (a + n) ∷ []
row-suc a zero = ap (λ k. k ∷ []) (let e : a ≡ a + 0 = omega arith in e)
row-suc a (suc n) =
    let moved : (a + 1) + n ≡ a + suc n = omega arith in
    ap (λ ks. a ∷ ks) (row-suc (a + 1) n ∙ ap (λ k. range_with_len (a + 1) n ++ k ∷ []) moved)

pub row-push : (n : ℕ) → range_with_len 0 (n + 1) ≡ range_with_len 0 n ++ n ∷ []
row-push n =
    let next : n + 1 ≡ suc n = omega arith in
    let here : 0 + n ≡ n = omega arith in
    ap (λ k. range_with_len 0 k) next ∙ row-suc 0 n ∙ ap (λ k. range_with_len 0 n ++ k ∷ []) here

pub given-push : {A : Type 0} (f : ℕ → Option A) (n : ℕ) →
    filter_map f (range_with_len 0 (n + 1)) ≡ filter_map f (range_with_len 0 n) ++ filter_map f (n ∷ [])
given-push f n = ap (filter_map f) (row-push n) ∙ filter_map-append f (range_with_len 0 n) (n ∷ [])

given_some : {A : Type 0} (f : ℕ → Option A) (n : ℕ) (a : A) → f n ≡ Some a → filter_map f (n ∷ []) ≡ a ∷ []
given_some {A} f n a e = ap (λ (o : Option A). cons_option o []) e

given_none : {A : Type 0} (f : ℕ → Option A) (n : ℕ) → f n ≡ None → filter_map f (n ∷ []) ≡ []
given_none {A} f n e = ap (λ (o : Option A). cons_option o []) e

-- what a number gives is taken while there is room for it
pub takes_one : {A B : Type 0} (f : ℕ → Option A) (g : A → B) (needed n : ℕ) (a : A) (got : List B) → length got < needed → f n ≡ Some a →
    got ≡ map g (take needed (filter_map f (range_with_len 0 n))) →
    got ++ g a ∷ [] ≡ map g (take needed (filter_map f (range_with_len 0 (n + 1))))
takes_one {A} {B} f g needed n a got room is e =
    let all = filter_map f (range_with_len 0 n) in
    let count : length got ≡ min needed (length all) =
    ap (λ (ys : List B). length ys) e ∙ length-map (take needed all) g ∙ length-take needed all in
    let few : length all < needed = omega (arith, count, room) in
    let more : length (all ++ a ∷ []) ≤ needed = omega (arith, length-append all (a ∷ []), few) in
    ap (λ ys. ys ++ g a ∷ []) (e ∙ ap (map g) (take_all needed all (omega (arith, few))))
    ∙ sym (map-append g all (a ∷ []))
    ∙ sym (ap (λ ys. map g (take needed ys)) (given-push f n ∙ ap (λ ys. all ++ ys) (given_some f n a is))
    ∙ ap (map g) (take_all needed (all ++ a ∷ []) more))

pub takes_none : {A B : Type 0} (f : ℕ → Option A) (g : A → B) (needed n : ℕ) (got : List B) → f n ≡ None →
    got ≡ map g (take needed (filter_map f (range_with_len 0 n))) → got ≡ map g (take needed (filter_map f (range_with_len 0 (n + 1))))
takes_none f g needed n got is e =
    e ∙ sym (ap (λ ys. map g (take needed ys))
    (given-push f n ∙ ap (λ ys. filter_map f (range_with_len 0 n) ++ ys) (given_none f n is)
    ∙ append-nil (filter_map f (range_with_len 0 n))))

pub takes_no_more : {A B : Type 0} (f : ℕ → Option A) (g : A → B) (needed n : ℕ) (got : List B) → needed ≤ length got →
    got ≡ map g (take needed (filter_map f (range_with_len 0 n))) → got ≡ map g (take needed (filter_map f (range_with_len 0 (n + 1))))
takes_no_more {A} {B} f g needed n got full e =
    let all = filter_map f (range_with_len 0 n) in
    let count : length got ≡ min needed (length all) =
    ap (λ (ys : List B). length ys) e ∙ length-map (take needed all) g ∙ length-take needed all in
    e ∙ sym (ap (λ ys. map g (take needed ys)) (given-push f n)
    ∙ ap (map g) (take-append-le needed all (filter_map f (n ∷ [])) (omega (arith, count, full))))

map-id : {A : Type 0} (xs : List A) → map (λ x. x) xs ≡ xs
map-id [] = refl
map-id (x ∷ xs) = ap (λ ys. x ∷ ys) (map-id xs)

-- the same of what is given itself
pub keeps_one : {A : Type 0} (f : ℕ → Option A) (needed n : ℕ) (a : A) (got : List A) → length got < needed → f n ≡ Some a →
    got ≡ take needed (filter_map f (range_with_len 0 n)) → got ++ a ∷ [] ≡ take needed (filter_map f (range_with_len 0 (n + 1)))
keeps_one f needed n a got room is e =
    takes_one f (λ x. x) needed n a got room is (e ∙ sym (map-id (take needed (filter_map f (range_with_len 0 n)))))
    ∙ map-id (take needed (filter_map f (range_with_len 0 (n + 1))))

pub keeps_none : {A : Type 0} (f : ℕ → Option A) (needed n : ℕ) (got : List A) → f n ≡ None →
    got ≡ take needed (filter_map f (range_with_len 0 n)) → got ≡ take needed (filter_map f (range_with_len 0 (n + 1)))
keeps_none f needed n got is e =
    takes_none f (λ x. x) needed n got is (e ∙ sym (map-id (take needed (filter_map f (range_with_len 0 n)))))
    ∙ map-id (take needed (filter_map f (range_with_len 0 (n + 1))))

pub keeps_no_more : {A : Type 0} (f : ℕ → Option A) (needed n : ℕ) (got : List A) → needed ≤ length got →
    got ≡ take needed (filter_map f (range_with_len 0 n)) → got ≡ take needed (filter_map f (range_with_len 0 (n + 1)))
keeps_no_more f needed n got full e =
    takes_no_more f (λ x. x) needed n got full (e ∙ sym (map-id (take needed (filter_map f (range_with_len 0 n)))))
    ∙ map-id (take needed (filter_map f (range_with_len 0 (n + 1))))

-- all that is given, with no bound
pub all_one : {A : Type 0} (f : ℕ → Option A) (n : ℕ) (a : A) (got : List A) → f n ≡ Some a → got ≡ filter_map f (range_with_len 0 n) →
    got ++ a ∷ [] ≡ filter_map f (range_with_len 0 (n + 1))
all_one f n a got is e =
    ap (λ ys. ys ++ a ∷ []) e ∙ sym (given-push f n ∙ ap (λ ys. filter_map f (range_with_len 0 n) ++ ys) (given_some f n a is))

pub all_none : {A : Type 0} (f : ℕ → Option A) (n : ℕ) (got : List A) → f n ≡ None → got ≡ filter_map f (range_with_len 0 n) →
    got ≡ filter_map f (range_with_len 0 (n + 1))
all_none f n got is e =
    e ∙ sym (given-push f n ∙ ap (λ ys. filter_map f (range_with_len 0 n) ++ ys) (given_none f n is)
    ∙ append-nil (filter_map f (range_with_len 0 n)))

-- ---- the first of two

pub or_none : {A : Type 0} (o : Option A) → or_else o None ≡ o
or_none None = refl
or_none (Some a) = refl

-- each part of a search that finds nothing finds nothing
pub none_first : {A : Type 0} (o k : Option A) → or_else o k ≡ None → o ≡ None
none_first None k e = refl
none_first (Some a) k e = absurd cc

pub none_second : {A : Type 0} (o k : Option A) → or_else o k ≡ None → k ≡ None
none_second None k e = e
none_second (Some a) k e = absurd cc

pub none_of_map : {A B : Type 0} (f : A → B) (o : Option A) → option_map f o ≡ None → o ≡ None
none_of_map f None e = refl
none_of_map f (Some a) e = absurd cc
