-- Lists that ascend by key, with one more item in its place.
use Rattle.std.proofs.Common.{◌≡◌, ℕ, suc, ◌+◌, ◌≤◌, false, List, [], ◌∷◌, length, refl, sym, ap, subst, ◌∙◌, ◌⊎◌, inl, inr, arith}
use Rattle.std.specs.Prelude.{Contains}
use Rattle.std.specs.Cmp.Lexicographic.{slice_cmp}
use Rattle.std.specs.Ordering.{nat_cmp, match_ordering, ordering_reverse}
use Rattle.std.specs.Str.{bytes_eq}
use Rattle.cluster_run.proofs.Members.{in_cases, in_head, in_rest}
use Rattle.std.specs.declared.cmp.Ordering.{Ordering}
use Rattle.std.specs.declared.cmp.Ordering.TheVariants.{Less, Equal, Greater}
use Rattle.std.proofs.lemmas.Bool.{cases_Bool}
use Rattle.std.proofs.lemmas.Cmp.{nat_list_cmp_total, tied_itself}
use Rattle.std.proofs.lemmas.Map.Lookups.{exact_bytes}
use Rattle.cluster_run.proofs.Finding.{same_true}
use Rattle.cluster_run.proofs.Marking.{none_in}
use Rattle.node_steps.specs.Lists.{by_key, put}
use Rattle.cluster_run.specs.Holding.{AreAbove, AscendBy}

module _ {A : Type 0} (key : A → List ℕ) where
  pub above_more : (k j : List ℕ) (rs : List A) → slice_cmp nat_cmp k j ≡ Less → AreAbove key j rs → AreAbove key k rs
  above_more k j [] h a = tt
  above_more k j (r ∷ rs) h a = (nat_list_cmp_total.trans k j (key r) h a.0, above_more k j rs h a.1)

  pub above_put : (k : List ℕ) (r : A) (xs : List A) → slice_cmp nat_cmp k (key r) ≡ Less → AreAbove key k xs →
      AreAbove key k (put (by_key key) r xs)
  above_put k r [] h a = (h, tt)
  above_put k r (x ∷ xs) h a = by (slice_cmp nat_cmp (key r) (key x)) (above_put k r xs h a.1)
    where
      by : (o : Ordering) → AreAbove key k (put (by_key key) r xs) →
          AreAbove key k (match_ordering o (r ∷ x ∷ xs) (r ∷ xs) (x ∷ put (by_key key) r xs))
      by Less rec = (h, a)
      by Equal rec = (h, a.1)
      by Greater rec = (a.0, rec)

  pub ascend_put : (r : A) (xs : List A) → AscendBy key xs → AscendBy key (put (by_key key) r xs)
  ascend_put r [] a = (tt, tt)
  ascend_put r (x ∷ xs) a = by (slice_cmp nat_cmp (key r) (key x)) refl (ascend_put r xs a.1)
    where
      by : (o : Ordering) → slice_cmp nat_cmp (key r) (key x) ≡ o → AscendBy key (put (by_key key) r xs) →
          AscendBy key (match_ordering o (r ∷ x ∷ xs) (r ∷ xs) (x ∷ put (by_key key) r xs))
      by Less e rec = ((e, above_more (key r) (key x) xs e a.0), a)
      by Equal e rec = (subst (λ (k : List ℕ). AreAbove key k xs) (sym (exact_bytes (key r) (key x) e)) a.0, a.1)
      by Greater e rec = (above_put (key x) r xs (nat_list_cmp_total.antisymm (key x) (key r) ∙ ap ordering_reverse e) a.0, rec)

  pub in_put : (r : A) (xs : List A) (y : A) → Contains (put (by_key key) r xs) y → (r ≡ y) ⊎ Contains xs y
  in_put r [] y i = in_cases y r [] i
  in_put r (x ∷ xs) y i = by (slice_cmp nat_cmp (key r) (key x)) i (in_put r xs y)
    where
      by : (o : Ordering) → Contains (match_ordering o (r ∷ x ∷ xs) (r ∷ xs) (x ∷ put (by_key key) r xs)) y →
          (Contains (put (by_key key) r xs) y → (r ≡ y) ⊎ Contains xs y) → (r ≡ y) ⊎ Contains (x ∷ xs) y
      by Less j rec = in_cases y r (x ∷ xs) j
      by Equal j rec = elim (in_cases y r xs j) [ inl e ↦ inl e | inr k ↦ inr (in_rest x y xs k) ]
      by Greater j rec = elim (in_cases y x (put (by_key key) r xs) j) [
        | inl e ↦ inr (subst (λ (z : A). Contains (x ∷ xs) z) e (in_head x xs))
        | inr k ↦ elim (rec k) [ inl e ↦ inl e | inr l ↦ inr (in_rest x y xs l) ]
      ]

  pub above_in : (k : List ℕ) (rs : List A) (r : A) → AreAbove key k rs → Contains rs r → slice_cmp nat_cmp k (key r) ≡ Less
  above_in k [] r a i = absurd (none_in r i)
  above_in k (x ∷ xs) r a i =
      elim (in_cases r x xs i) [ inl e ↦ ap (λ (z : A). slice_cmp nat_cmp k (key z)) (sym e) ∙ a.0 | inr j ↦ above_in k xs r a.1 j ]

  -- ---- how many

  pub put_longer : (r : A) (xs : List A) → length (put (by_key key) r xs) ≤ length xs + 1
  put_longer r [] = omega arith
  put_longer r (x ∷ xs) = by (slice_cmp nat_cmp (key r) (key x)) (put_longer r xs)
    where
      by : (o : Ordering) → length (put (by_key key) r xs) ≤ length xs + 1 →
          length (match_ordering o (r ∷ x ∷ xs) (r ∷ xs) (x ∷ put (by_key key) r xs)) ≤ length (x ∷ xs) + 1
      by Less rec = omega arith
      by Equal rec = omega arith
      by Greater rec = omega (arith, rec)

  -- in the place of one of its key
  pub put_same : (r q : A) (xs : List A) → key r ≡ key q → AscendBy key xs → Contains xs q → length (put (by_key key) r xs) ≡ length xs
  put_same r q [] e a i = absurd (none_in q i)
  put_same r q (x ∷ xs) e a i = by (slice_cmp nat_cmp (key r) (key x)) refl (λ j. put_same r q xs e a.1 j)
    where
      by : (o : Ordering) → slice_cmp nat_cmp (key r) (key x) ≡ o → (Contains xs q → length (put (by_key key) r xs) ≡ length xs) →
          length (match_ordering o (r ∷ x ∷ xs) (r ∷ xs) (x ∷ put (by_key key) r xs)) ≡ length (x ∷ xs)
      by Equal f rec = refl
      by Greater f rec = elim (in_cases q x xs i) [
        | inl s ↦
            let g : Equal ≡ Greater =
            sym (tied_itself nat_list_cmp_total (key r)) ∙ ap (slice_cmp nat_cmp (key r)) (e ∙ ap (λ (z : A). key z) (sym s)) ∙ f in
            absurd cc
        | inr j ↦ ap suc (rec j)
      ]
      by Less f rec = elim (in_cases q x xs i) [
        | inl s ↦
            let g : Equal ≡ Less =
            sym (tied_itself nat_list_cmp_total (key r)) ∙ ap (slice_cmp nat_cmp (key r)) (e ∙ ap (λ (z : A). key z) (sym s)) ∙ f in
            absurd cc
        | inr j ↦
            let less = above_in (key x) xs q a.0 j in
            let g : Less ≡ Greater =
            sym f ∙ ap (λ (k : List ℕ). slice_cmp nat_cmp k (key x)) e ∙ nat_list_cmp_total.antisymm (key q) (key x)
            ∙ ap ordering_reverse less in
            absurd cc
      ]

  pub above_not : (k : List ℕ) (rs : List A) (r : A) → AreAbove key k rs → Contains rs r → bytes_eq k (key r) ≡ false
  above_not k [] r a i = absurd (none_in r i)
  above_not k (x ∷ xs) r a i = elim (in_cases r x xs i) [
    | inl e ↦ elim (cases_Bool (bytes_eq k (key r))) [
      | inl s ↦
          let less : slice_cmp nat_cmp k (key r) ≡ Less = ap (λ (z : A). slice_cmp nat_cmp k (key z)) (sym e) ∙ a.0 in
          let same : Equal ≡ Less = sym (tied_itself nat_list_cmp_total k) ∙ ap (slice_cmp nat_cmp k) (same_true k (key r) s) ∙ less in
          absurd cc
      | inr n ↦ n
    ]
    | inr j ↦ above_not k xs r a.1 j
  ]
