-- Short lists of words, and functions with another value at one place.
use Rattle.std.proofs.Common.{◌≡◌, ℕ, true, false, cond, refl, arith, ◌⊎◌, inl, inr, sym, ◌∙◌, ap, subst, [], ◌∷◌, get_or}
use Rattle.std.specs.List.{Contains}
use Rattle.std.proofs.lemmas.Bool.{cases_eq, cases_Bool, eq-eqb, ne_eqb}
use Rattle.std.proofs.lemmas.Slice.Eq.{bytes_eq-Decides}
use Rattle.agreement_laws.specs.Words.{Id, same_id, Word}
use Rattle.agreement_laws.specs.Runs.{put_id, put, put_node}

pub in_none : (w : Word) → Contains [] w → ⊥
in_none w h = absurd (omega (arith, h.1))

pub in_one : (v w : Word) → Contains (v ∷ []) w → v ≡ w
in_one v w h = let e : h.0 ≡ 0 = omega (arith, h.1) in subst (λ (k : ℕ). get_or (v ∷ []) k w ≡ w) e h.2

cases_id : (x y : Id) → (x ≡ y) ⊎ (x ≡ y → ⊥)
cases_id x y = elim (cases_Bool (same_id x y)) [
  | inl e ↦ inl ((bytes_eq-Decides x y).0 e)
  | inr e ↦ inr (λ p. let q : true ≡ false = sym ((bytes_eq-Decides x y).1 p) ∙ e in cc)
]

module _ {A : Type 0} where
  pub put_id_same : (g : Id → A) (x : Id) (a : A) → put_id g x a x ≡ a
  put_id_same g x a = ap (λ b. cond b a (g x)) ((bytes_eq-Decides x x).1 refl)

  -- what holds of the new value and of the others holds everywhere
  pub put_id_cases : (P : Id → A → Type 0) (g : Id → A) (x : Id) (a : A) → P x a → ((y : Id) → (y ≡ x → ⊥) → P y (g y)) → (y : Id) →
      P y (put_id g x a y)
  put_id_cases P g x a h k y = elim (cases_Bool (same_id y x)) [
    | inl e ↦ let Q : Id → Type 0 =
        λ z. P z a in subst (P y) (sym (ap (λ b. cond b a (g y)) e)) (subst Q (sym ((bytes_eq-Decides y x).0 e)) h)
    | inr e ↦ subst (P y) (sym (ap (λ b. cond b a (g y)) e)) (k y (λ p. let q : true ≡ false = sym ((bytes_eq-Decides y x).1 p) ∙ e in cc))
  ]

  pub put_cases : (P : ℕ → A → Type 0) (g : ℕ → A) (i : ℕ) (a : A) → P i a → ((j : ℕ) → (j ≡ i → ⊥) → P j (g j)) → (j : ℕ) →
      P j (put g i a j)
  put_cases P g i a h k j = elim (cases_eq j i) [
    | inl e ↦ let Q : ℕ → Type 0 =
        λ z. P z (put g i a z) in subst Q (sym e) (subst (P i) (sym (ap (λ b. cond b a (g i)) (eq-eqb i i refl))) h)
    | inr n ↦ subst (P j) (sym (ap (λ b. cond b a (g j)) (ne_eqb j i n))) (k j n)
  ]

module _ {A : Type 0} where
  pub put_node_cases : (P : ℕ → ℕ → A → Type 0) (g : ℕ → ℕ → A) (s r : ℕ) (a : A) → P s r a → ((t q : ℕ) → P t q (g t q)) → (t q : ℕ) →
      P t q (put_node g s r a t q)
  put_node_cases P g s r a h k = put_cases (λ t f. (q : ℕ) → P t q (f q)) g s (put (g s) r a)
      (put_cases (P s) (g s) r a h (λ q _. k s q))
      (λ t _ q. k t q)
