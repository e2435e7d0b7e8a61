-- Items in lists that ascend by key.
use Rattle.std.proofs.Common.{◌≡◌, ◌∙◌, ℕ, ◌+◌, ◌<◌, List, [], ◌∷◌, ◌++◌, refl, sym, ap, length, suc, map, take, drop, set, add-one}
use Rattle.std.proofs.lemmas.List.{take-append-drop, take-set, drop-set, append_assoc}
use Rattle.std.proofs.Math.Seq.{drop-cons, take-add}
use Rattle.std.specs.Prelude.{slice_index_or, insert}
use Rattle.node_steps.specs.Lists.{by_key, put}
use Rattle.std.specs.declared.cmp.Ordering.{Ordering}
use Rattle.std.specs.declared.cmp.Ordering.TheVariants.{Less, Equal, Greater}
use Rattle.std.specs.Ordering.{nat_cmp, match_ordering}
use Rattle.std.specs.Cmp.Lexicographic.{slice_cmp}

-- ---- images of lists that ascend by key

pub put_map : {A B : Type 0} (f : A → B) (key : B → List ℕ) (a : A) (xs : List A) →
    map f (put (by_key (λ x. key (f x))) a xs) ≡ put (by_key key) (f a) (map f xs)
put_map f key a [] = refl
put_map f key a (x ∷ xs) = by (put_map f key a xs) (slice_cmp nat_cmp (key (f a)) (key (f x)))
  where
    by : map f (put (by_key (λ y. key (f y))) a xs) ≡ put (by_key key) (f a) (map f xs) → (o : Ordering) →
        map f (match_ordering o (a ∷ x ∷ xs) (a ∷ xs) (x ∷ put (by_key (λ y. key (f y))) a xs))
        ≡ match_ordering o (f a ∷ f x ∷ map f xs) (f a ∷ map f xs) (f x ∷ put (by_key key) (f a) (map f xs))
    by later Less = refl
    by later Equal = refl
    by later Greater = ap (λ l. f x ∷ l) later

-- ---- the place of an item

module _ {A : Type 0} (cmp : A → A → Ordering) (item x : A) (xs : List A) (i : ℕ)
    (within : i < length xs) (at : slice_index_or xs i x ≡ x)
    (before : put cmp item xs ≡ take i xs ++ put cmp item (drop i xs)) where
  split : drop i xs ≡ x ∷ drop (suc i) xs
  split = drop-cons xs i x within ∙ ap (λ y. y ∷ drop (suc i) xs) at

  by_order : (o : Ordering) → cmp item x ≡ o → put cmp item xs
      ≡ take i xs ++ match_ordering o (item ∷ x ∷ drop (suc i) xs) (item ∷ drop (suc i) xs) (x ∷ put cmp item (drop (suc i) xs))
  by_order o e =
      before
      ∙ ap (λ l. take i xs ++ put cmp item l) split
      ∙ ap (λ r. take i xs ++ match_ordering r (item ∷ x ∷ drop (suc i) xs) (item ∷ drop (suc i) xs) (x ∷ put cmp item (drop (suc i) xs))) e

  pub put_less : cmp item x ≡ Less → put cmp item xs ≡ insert xs i item
  put_less e = by_order Less e ∙ sym (ap (λ l. take i xs ++ item ∷ l) split)

  set_split : set xs i item ≡ take i xs ++ item ∷ drop (suc i) xs
  set_split =
      sym (take-append-drop i (set xs i item))
      ∙ ap (λ l. l ++ drop i (set xs i item)) (take-set xs i item)
      ∙ ap (λ l. take i xs ++ l) (drop-set xs i item within)
      ∙ ap (λ n. take i xs ++ item ∷ drop n xs) (add-one i)

  pub put_equal : cmp item x ≡ Equal → put cmp item xs ≡ set xs i item
  put_equal e = by_order Equal e ∙ sym set_split

  pub put_greater : cmp item x ≡ Greater → put cmp item xs ≡ take (i + 1) xs ++ put cmp item (drop (i + 1) xs)
  put_greater e =
      by_order Greater e
      ∙ sym (append_assoc (take i xs) (x ∷ []) (put cmp item (drop (suc i) xs)))
      ∙ ap (λ l. l ++ put cmp item (drop (suc i) xs)) (sym (take-add i 1 xs ∙ ap (λ l. take i xs ++ take 1 l) split))
      ∙ ap (λ n. take (i + 1) xs ++ put cmp item (drop n xs)) (sym (add-one i))
