-- Members of numbered lists, and of what a partial function makes of a list.
use Rattle.std.proofs.Common.{◌≡◌, ℕ, suc, ◌+◌, Bool, true, inl, inr, List, [], ◌∷◌, Option, Some, None, refl, ap, sym, ◌∙◌, subst, arith}
use Rattle.std.specs.Prelude.{slice_get, filter_map}
use Rattle.std.specs.List.{Contains, list_all, enumerate_from, cons_option}
use Rattle.std.proofs.lemmas.Bool.{and_parts}
use Rattle.basil_types.proofs.MemberLaws.{in_none, in_head, in_tail, in_cases}

module _ {A : Type 0} where
  abbrev IsNumbered : ℕ → List A → ℕ × A → Type 0
  IsNumbered n xs p = (k : ℕ) × (p.0 ≡ n + k) × (slice_get xs k ≡ Some p.1)

  pub numbered : (xs : List A) (n : ℕ) (p : ℕ × A) → Contains (enumerate_from n xs) p → IsNumbered n xs p
  numbered [] n p h = absurd (in_none p h)
  numbered (x ∷ xs) n p h = elim (in_cases (n, x) (enumerate_from (n + 1) xs) p h) [
    | inl e ↦ subst (IsNumbered n (x ∷ xs)) e (0, omega arith, refl)
    | inr i ↦ let o = numbered xs (n + 1) p i in (suc o.0, omega (arith, o.1), o.2)
  ]

  pub mapped : {B : Type 0} (f : A → Option B) (xs : List A) (y : B) → Contains (filter_map f xs) y →
      (x : A) × Contains xs x × (f x ≡ Some y)
  mapped f [] y h = absurd (in_none y h)
  mapped {B} f (x ∷ xs) y h = by (f x) refl h (mapped f xs y)
    where
      by : (o : Option B) → f x ≡ o → Contains (cons_option o (filter_map f xs)) y →
          (Contains (filter_map f xs) y → (z : A) × Contains xs z × (f z ≡ Some y)) → (z : A) × Contains (x ∷ xs) z × (f z ≡ Some y)
      by None e k later = let o = later k in (o.0, in_tail x xs o.0 o.1, o.2)
      by (Some w) e k later = elim (in_cases w (filter_map f xs) y k) [
        | inl i ↦ (x, in_head x xs, e ∙ ap Some i)
        | inr i ↦ let o = later i in (o.0, in_tail x xs o.0 o.1, o.2)
      ]

  pub all_pass : (p : A → Bool) (xs : List A) → list_all p xs ≡ true → (x : A) → Contains xs x → p x ≡ true
  all_pass p [] h x i = absurd (in_none x i)
  all_pass p (y ∷ ys) h x i =
      let q = and_parts (p y) (list_all p ys) h in
      elim (in_cases y ys x i) [ inl e ↦ ap p (sym e) ∙ q.0 | inr k ↦ all_pass p ys q.1 x k ]
