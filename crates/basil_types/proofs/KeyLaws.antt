-- A map of keys by their bytes: what it holds at each key once one value is written, or once a key is new.
use Rattle.std.proofs.Common.{◌≡◌, ℕ, Bool, true, false, cond, List, [], ◌∷◌, ◌++◌, Option, Some, None, refl, sym, ap, ◌∙◌}
use Rattle.std.specs.Str.{bytes_eq}
use Rattle.std.specs.Map.{lookup, set_value}
use Rattle.std.proofs.lemmas.Slice.Eq.{bytes_eq-Decides}

pub bytes_tell : (a b : List ℕ) → bytes_eq a b ≡ true → a ≡ b
bytes_tell a b e = (bytes_eq-Decides a b).0 e

pub bytes_same : (a : List ℕ) → bytes_eq a a ≡ true
bytes_same a = (bytes_eq-Decides a a).1 refl

true≢false' : {A : Type 0} → true ≡ false → A
true≢false' e = absurd cc

-- whether a key of a map has these bytes
abbrev pub has_bytes : {K : Type 0} → (K → List ℕ) → List ℕ → K → Bool
has_bytes bytes key k = bytes_eq key (bytes k)

module _ {K X : Type 0} (bytes : K → List ℕ) where
  here : (key k : List ℕ) (e : K × X) (es : List (K × X)) (w : X) (b : Bool) → bytes_eq key (bytes e.0) ≡ true → bytes_eq k (bytes e.0) ≡ b
      → cond b (Some w) (lookup (has_bytes bytes k) es) ≡ cond (bytes_eq key k) (Some w) (cond b (Some e.1) (lookup (has_bytes bytes k) es))
  here key k e es w true at other =
      let same : bytes_eq key k ≡ true = ap (λ z. bytes_eq key z) (bytes_tell k (bytes e.0) other) ∙ at in
      sym (ap (λ z. cond z (Some w) (Some e.1)) same)
  here key k e es w false at other =
      let apart : bytes_eq key k ≡ false = by (bytes_eq key k) refl in
      sym (ap (λ z. cond z (Some w) (lookup (has_bytes bytes k) es)) apart)
    where
      by : (b : Bool) → bytes_eq key k ≡ b → b ≡ false
      by true q = true≢false' (sym (ap (λ z. bytes_eq z (bytes e.0)) (sym (bytes_tell key k q)) ∙ at) ∙ other)
      by false q = refl

  there : (key k : List ℕ) (e : K × X) (w : X) (rest old : Option X) (b : Bool) → bytes_eq key (bytes e.0) ≡ false
      → bytes_eq k (bytes e.0) ≡ b → rest ≡ cond (bytes_eq key k) (Some w) old
      → cond b (Some e.1) rest ≡ cond (bytes_eq key k) (Some w) (cond b (Some e.1) old)
  there key k e w rest old true at other is =
      let apart : bytes_eq key k ≡ false = by (bytes_eq key k) refl in
      sym (ap (λ z. cond z (Some w) (Some e.1)) apart)
    where
      by : (b : Bool) → bytes_eq key k ≡ b → b ≡ false
      by true q = true≢false' (sym (ap (λ z. bytes_eq z (bytes e.0)) (bytes_tell key k q) ∙ other) ∙ at)
      by false q = refl
  there key k e w rest old false at other is = is

  pub lookup-set_value : (key k : List ℕ) (es : List (K × X)) (i w : X) → lookup (has_bytes bytes key) es ≡ Some i
      → lookup (has_bytes bytes k) (set_value (has_bytes bytes key) es w) ≡ cond (bytes_eq key k) (Some w) (lookup (has_bytes bytes k) es)
  lookup-set_value key k [] i w found = absurd cc
  lookup-set_value key k (e ∷ es) i w found =
      by (lookup-set_value key k es i w) (bytes_eq key (bytes e.0)) (bytes_eq k (bytes e.0)) refl refl
    where
      by : (lookup (has_bytes bytes key) es ≡ Some i
          → lookup (has_bytes bytes k) (set_value (has_bytes bytes key) es w)
          ≡ cond (bytes_eq key k) (Some w) (lookup (has_bytes bytes k) es)) → (a b : Bool) → bytes_eq key (bytes e.0) ≡ a
          → bytes_eq k (bytes e.0) ≡ b
          → lookup (has_bytes bytes k) (cond (bytes_eq key (bytes e.0)) ((e.0, w) ∷ es) (e ∷ set_value (has_bytes bytes key) es w))
          ≡ cond (bytes_eq key k) (Some w) (cond (bytes_eq k (bytes e.0)) (Some e.1) (lookup (has_bytes bytes k) es))
      by more true b p q =
          ap (λ z. lookup (has_bytes bytes k) (cond z ((e.0, w) ∷ es) (e ∷ set_value (has_bytes bytes key) es w))) p
          ∙ ap (λ z. cond z (Some w) (lookup (has_bytes bytes k) es)) q
          ∙ here key k e es w b p q
          ∙ ap (λ z. cond (bytes_eq key k) (Some w) (cond z (Some e.1) (lookup (has_bytes bytes k) es))) (sym q)
      by more false b p q =
          ap (λ z. lookup (has_bytes bytes k) (cond z ((e.0, w) ∷ es) (e ∷ set_value (has_bytes bytes key) es w))) p
          ∙ ap (λ z. cond z (Some e.1) (lookup (has_bytes bytes k) (set_value (has_bytes bytes key) es w))) q
          ∙ there key k e w _ _ b p q (more (sym (ap (λ z. cond z (Some e.1) (lookup (has_bytes bytes key) es)) p) ∙ found))
          ∙ ap (λ z. cond (bytes_eq key k) (Some w) (cond z (Some e.1) (lookup (has_bytes bytes k) es))) (sym q)

  -- a key that no entry has goes last
  pub lookup-push : (key k : List ℕ) (es : List (K × X)) (new : K) (w : X) → bytes new ≡ key → lookup (has_bytes bytes key) es ≡ None
      → lookup (has_bytes bytes k) (es ++ (new, w) ∷ []) ≡ cond (bytes_eq key k) (Some w) (lookup (has_bytes bytes k) es)
  lookup-push key k [] new w is none = by (bytes_eq k (bytes new)) (bytes_eq key k) refl refl
    where
      by : (a b : Bool) → bytes_eq k (bytes new) ≡ a → bytes_eq key k ≡ b
          → cond (bytes_eq k (bytes new)) (Some w) None ≡ cond (bytes_eq key k) (Some w) None
      by true true p q = ap (λ z. cond z (Some w) None) (p ∙ sym q)
      by false false p q = ap (λ z. cond z (Some w) None) (p ∙ sym q)
      by true false p q = true≢false' (sym (bytes_same key) ∙ ap (bytes_eq key) (sym is ∙ sym (bytes_tell k (bytes new) p)) ∙ q)
      by false true p q = true≢false' (sym (bytes_same k) ∙ ap (bytes_eq k) (sym (bytes_tell key k q) ∙ sym is) ∙ p)
  lookup-push key k (e ∷ es) new w is none =
      by (lookup-push key k es new w is) (bytes_eq key (bytes e.0)) (bytes_eq k (bytes e.0)) refl refl
    where
      by : (lookup (has_bytes bytes key) es ≡ None
          → lookup (has_bytes bytes k) (es ++ (new, w) ∷ []) ≡ cond (bytes_eq key k) (Some w) (lookup (has_bytes bytes k) es))
          → (a b : Bool) → bytes_eq key (bytes e.0) ≡ a → bytes_eq k (bytes e.0) ≡ b
          → cond (bytes_eq k (bytes e.0)) (Some e.1) (lookup (has_bytes bytes k) (es ++ (new, w) ∷ []))
          ≡ cond (bytes_eq key k) (Some w) (cond (bytes_eq k (bytes e.0)) (Some e.1) (lookup (has_bytes bytes k) es))
      by more true b p q = absurd (let h : Some e.1 ≡ None = sym (ap (λ z. cond z (Some e.1) (lookup (has_bytes bytes key) es)) p)
          ∙ none in cc)
      by more false b p q =
          ap (λ z. cond z (Some e.1) (lookup (has_bytes bytes k) (es ++ (new, w) ∷ []))) q
          ∙ there key k e w _ _ b p q (more (sym (ap (λ z. cond z (Some e.1) (lookup (has_bytes bytes key) es)) p) ∙ none))
          ∙ ap (λ z. cond (bytes_eq key k) (Some w) (cond z (Some e.1) (lookup (has_bytes bytes k) es))) (sym q)
