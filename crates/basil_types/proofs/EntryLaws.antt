-- What a look-up finds in the entries of a map after one is put, whether or not their keys are in order.
use Rattle.std.proofs.Common.{◌≡◌, Bool, true, false, cond, ◌⊎◌, inl, inr, List, [], ◌∷◌, Option, Some, None, refl, ap, sym, ◌∙◌, subst}
use Rattle.std.specs.declared.cmp.Ordering.{Ordering}
use Rattle.std.specs.declared.cmp.Ordering.TheVariants.{Less, Equal, Greater}
use Rattle.std.specs.BTreeMap.{is_at, insert_entry}
use Rattle.std.specs.Cmp.{IsTotalOrder}
use Rattle.std.specs.List.{AllByRecursion}
use Rattle.std.specs.List.Sorted.{IsStrictlySortedBy}
use Rattle.std.specs.Map.{keys_of, lookup}
use Rattle.std.specs.Ordering.{is_eq, match_ordering, ordering_reverse}
use Rattle.std.proofs.lemmas.Cmp.{tied_itself}
use Rattle.std.proofs.lemmas.Map.Lookups.{CmpEqualImpliesEq}
use Rattle.std.specs.List.{Contains}
use Rattle.basil_types.proofs.MemberLaws.{in_none, in_head, in_tail, in_cases}

tied : (o : Ordering) → is_eq o ≡ true → o ≡ Equal
tied Less e = absurd cc
tied Equal e = refl
tied Greater e = absurd cc

all_above : {K : Type 0} {R : K → K → Ordering} → IsTotalOrder R → (k : K) (es : List K) (e : K) → R k e ≡ Less → AllByRecursion
    (λ y. R e y ≡ Less) es → AllByRecursion (λ y. R k y ≡ Less) es
all_above o k [] e p a = tt
all_above o k (x ∷ xs) e p a = (o.trans k e x p a.0, all_above o k xs e p a.1)

module _ {K X : Type 0} {R : K → K → Ordering} (o : IsTotalOrder R) (exact : CmpEqualImpliesEq R) where
  abbrev pub find : K → List (K × X) → Option X
  find q es = lookup (is_at (R q)) es

  -- the key that was put
  pub found_put : (k : K) (v : X) (es : List (K × X)) → find k (insert_entry R es k v) ≡ Some v
  found_put k v [] = ap (λ t. cond (is_eq t) (Some v) None) (tied_itself o k)
  found_put k v (e ∷ es) = by (R k e.0) refl (found_put k v es)
    where
      by : (t : Ordering) → R k e.0 ≡ t → find k (insert_entry R es k v) ≡ Some v → find k
          (match_ordering t ((k, v) ∷ e ∷ es) ((e.0, v) ∷ es) (e ∷ insert_entry R es k v)) ≡ Some v
      by Less p later = ap (λ t. cond (is_eq t) (Some v) (find k (e ∷ es))) (tied_itself o k)
      by Equal p later = ap (λ t. cond (is_eq t) (Some v) (find k es)) p
      by Greater p later = ap (λ t. cond (is_eq t) (Some e.1) (find k (insert_entry R es k v))) p ∙ later

  -- another
  pub found_apart : (q k : K) (v : X) → is_eq (R q k) ≡ false → (es : List (K × X)) → find q (insert_entry R es k v) ≡ find q es
  found_apart q k v n [] = ap (λ b. cond b (Some v) None) n
  found_apart q k v n (e ∷ es) = by (R k e.0) refl (found_apart q k v n es)
    where
      by : (t : Ordering) → R k e.0 ≡ t → find q (insert_entry R es k v) ≡ find q es → find q
          (match_ordering t ((k, v) ∷ e ∷ es) ((e.0, v) ∷ es) (e ∷ insert_entry R es k v)) ≡ find q (e ∷ es)
      by Less p later = ap (λ b. cond b (Some v) (find q (e ∷ es))) n
      by Equal p later =
          let m : is_eq (R q e.0) ≡ false = subst (λ z. is_eq (R q z) ≡ false) (exact k e.0 p) n in
          ap (λ b. cond b (Some v) (find q es)) m ∙ sym (ap (λ b. cond b (Some e.1) (find q es)) m)
      by Greater p later = ap (λ z. cond (is_eq (R q e.0)) (Some e.1) z) later

  -- order is kept
  all_put : (P : K → Type 0) (k : K) (v : X) → P k → (es : List (K × X)) → AllByRecursion P (keys_of es) → AllByRecursion P
      (keys_of (insert_entry R es k v))
  all_put P k v p [] a = (p, tt)
  all_put P k v p (e ∷ es) a = by (R k e.0) (all_put P k v p es a.1)
    where
      by : (t : Ordering) → AllByRecursion P (keys_of (insert_entry R es k v)) → AllByRecursion P
          (keys_of (match_ordering t ((k, v) ∷ e ∷ es) ((e.0, v) ∷ es) (e ∷ insert_entry R es k v)))
      by Less later = (p, a)
      by Equal later = a
      by Greater later = (a.0, later)

  pub sorted_put : (k : K) (v : X) (es : List (K × X)) → IsStrictlySortedBy R (keys_of es) → IsStrictlySortedBy R
      (keys_of (insert_entry R es k v))
  unfolding IsStrictlySortedBy
  sorted_put k v [] s = (tt, tt)
  sorted_put k v (e ∷ es) s = by (R k e.0) refl (sorted_put k v es s.1)
    where
      by : (t : Ordering) → R k e.0 ≡ t → IsStrictlySortedBy R (keys_of (insert_entry R es k v)) → IsStrictlySortedBy R
          (keys_of (match_ordering t ((k, v) ∷ e ∷ es) ((e.0, v) ∷ es) (e ∷ insert_entry R es k v)))
      by Less p later = ((p, all_above o k (keys_of es) e.0 p s.0), s)
      by Equal p later = s
      by Greater p later = (all_put (λ y. R e.0 y ≡ Less) k v (o.antisymm e.0 k ∙ ap ordering_reverse p) es s.0, later)

  -- members
  pub in_put : (k : K) (v : X) (es : List (K × X)) → Contains (insert_entry R es k v) (k, v)
  in_put k v [] = in_head (k, v) []
  in_put k v (e ∷ es) = by (R k e.0) refl (in_put k v es)
    where
      by : (t : Ordering) → R k e.0 ≡ t → Contains (insert_entry R es k v) (k, v) → Contains
          (match_ordering t ((k, v) ∷ e ∷ es) ((e.0, v) ∷ es) (e ∷ insert_entry R es k v)) (k, v)
      by Less p later = in_head (k, v) (e ∷ es)
      by Equal p later = let E : K → Type 0 = λ z. Contains ((e.0, v) ∷ es) (z, v) in subst E (sym (exact k e.0 p)) (in_head (e.0, v) es)
      by Greater p later = in_tail e (insert_entry R es k v) (k, v) later

  pub kept_by_put : (k : K) (v : X) (es : List (K × X)) (x : K × X) → Contains es x → (x.0 ≡ k) ⊎ Contains (insert_entry R es k v) x
  kept_by_put k v [] x h = absurd (in_none x h)
  kept_by_put k v (e ∷ es) x h = by (R k e.0) refl (kept_by_put k v es x) (in_cases e es x h)
    where
      by : (t : Ordering) → R k e.0 ≡ t → (Contains es x → (x.0 ≡ k) ⊎ Contains (insert_entry R es k v) x) → (e ≡ x) ⊎ Contains es x →
          (x.0 ≡ k) ⊎ Contains (match_ordering t ((k, v) ∷ e ∷ es) ((e.0, v) ∷ es) (e ∷ insert_entry R es k v)) x
      by Less p later c = inr (in_tail (k, v) (e ∷ es) x h)
      by Equal p later (inl c) = inl (ap (λ (z : K × X). z.0) (sym c) ∙ sym (exact k e.0 p))
      by Equal p later (inr c) = inr (in_tail (e.0, v) es x c)
      by Greater p later (inl c) = inr (subst (λ z. Contains (e ∷ insert_entry R es k v) z) c (in_head e (insert_entry R es k v)))
      by Greater p later (inr c) = elim (later c) [ inl i ↦ inl i | inr i ↦ inr (in_tail e (insert_entry R es k v) x i) ]

  pub from_put : (k : K) (v : X) (es : List (K × X)) (x : K × X) → Contains (insert_entry R es k v) x → ((k, v) ≡ x) ⊎ Contains es x
  from_put k v [] x h = in_cases (k, v) [] x h
  from_put k v (e ∷ es) x h = by (R k e.0) refl (from_put k v es x) h
    where
      by : (t : Ordering) → R k e.0 ≡ t → (Contains (insert_entry R es k v) x → ((k, v) ≡ x) ⊎ Contains es x) → Contains
          (match_ordering t ((k, v) ∷ e ∷ es) ((e.0, v) ∷ es) (e ∷ insert_entry R es k v)) x → ((k, v) ≡ x) ⊎ Contains (e ∷ es) x
      by Less p later c = in_cases (k, v) (e ∷ es) x c
      by Equal p later c = elim (in_cases (e.0, v) es x c) [
        | inl i ↦ inl (let E : K → Type 0 = λ z. (z, v) ≡ x in subst E (sym (exact k e.0 p)) i)
        | inr i ↦ inr (in_tail e es x i)
      ]
      by Greater p later c = elim (in_cases e (insert_entry R es k v) x c) [
        | inl i ↦ inr (subst (λ z. Contains (e ∷ es) z) i (in_head e es))
        | inr i ↦ elim (later i) [ inl j ↦ inl j | inr j ↦ inr (in_tail e es x j) ]
      ]

  -- ---- entries in order are known by what look-ups find

  none_above : (q : K) (es : List (K × X)) → AllByRecursion (λ y. R q y ≡ Less) (keys_of es) → find q es ≡ None
  none_above q [] a = refl
  none_above q (e ∷ es) a = ap (λ t. cond (is_eq t) (Some e.1) (find q es)) a.0 ∙ none_above q es a.1

  found_first : (e : K × X) (es : List (K × X)) → find e.0 (e ∷ es) ≡ Some e.1
  found_first e es = ap (λ t. cond (is_eq t) (Some e.1) (find e.0 es)) (tied_itself o e.0)

  -- below the first none is found
  none_before : (q : K) (e : K × X) (es : List (K × X)) → R q e.0 ≡ Less → IsStrictlySortedBy R (keys_of (e ∷ es)) → find q (e ∷ es) ≡ None
  unfolding IsStrictlySortedBy
  none_before q e es p s = none_above q (e ∷ es) (p, all_above o q (keys_of es) e.0 p s.0)

  abbrev IsFoundAlike : List (K × X) → List (K × X) → Type 0
  IsFoundAlike es fs = (q : K) → find q es ≡ find q fs

  -- and the same of the others, where the first are the same
  tails_alike : (e : K × X) (es fs : List (K × X)) → IsStrictlySortedBy R (keys_of (e ∷ es)) → IsStrictlySortedBy R (keys_of (e ∷ fs)) →
      IsFoundAlike (e ∷ es) (e ∷ fs) → IsFoundAlike es fs
  unfolding IsStrictlySortedBy
  tails_alike e es fs s t h q = by (is_eq (R q e.0)) refl (h q)
    where
      by : (b : Bool) → is_eq (R q e.0) ≡ b → cond b (Some e.1) (find q es) ≡ cond b (Some e.1) (find q fs) → find q es ≡ find q fs
      by true p k =
          let i : q ≡ e.0 = exact q e.0 (tied (R q e.0) p) in
          let P : K → Type 0 = λ z. find z es ≡ find z fs in
          subst P (sym i) (none_above e.0 es s.0 ∙ sym (none_above e.0 fs t.0))
      by false p k = k

  pub same_entries : (es fs : List (K × X)) → IsStrictlySortedBy R (keys_of es) → IsStrictlySortedBy R (keys_of fs) → IsFoundAlike es fs →
      es ≡ fs
  unfolding IsStrictlySortedBy
  same_entries [] [] s t h = refl
  same_entries [] (f ∷ fs) s t h = absurd (let e : None ≡ Some f.1 = h f.0 ∙ found_first f fs in cc)
  same_entries (e ∷ es) [] s t h = absurd (let f : None ≡ Some e.1 = sym (h e.0) ∙ found_first e es in cc)
  same_entries (e ∷ es) (f ∷ fs) s t h = by (R e.0 f.0) refl (same_entries es fs s.1 t.1)
    where
      by : (c : Ordering) → R e.0 f.0 ≡ c → (IsFoundAlike es fs → es ≡ fs) → e ∷ es ≡ f ∷ fs
      by Less p later = absurd (let k : Some e.1 ≡ None = sym (found_first e es) ∙ h e.0 ∙ none_before e.0 f fs p t in cc)
      by Greater p later =
          absurd (let k : None ≡ Some f.1 = sym (none_before f.0 e es (o.antisymm f.0 e.0 ∙ ap ordering_reverse p) s) ∙ h f.0
          ∙ found_first f fs in cc)
      by Equal p later =
          let i : e.0 ≡ f.0 = exact e.0 f.0 p in
          let F : K → Type 0 = λ z. find z (f ∷ fs) ≡ Some f.1 in
          let k : Some e.1 ≡ Some f.1 = sym (found_first e es) ∙ h e.0 ∙ subst F (sym i) (found_first f fs) in
          let j : e.1 ≡ f.1 = cc in
          let same : e ≡ f = λ d. (i d, j d) in
          let T : K × X → Type 0 = λ z. IsStrictlySortedBy R (keys_of (z ∷ fs)) in
          let H : K × X → Type 0 = λ z. IsFoundAlike (e ∷ es) (z ∷ fs) in
          let rest = later (tails_alike e es fs s (subst T (sym same) t) (subst H (sym same) h)) in
          λ d. same d ∷ rest d
