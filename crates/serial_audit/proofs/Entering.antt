-- A store that is told of transactions whose versions ascend, one after the other.
use Rattle.std.proofs.Common.{◌≡◌, ℕ, zero, suc, ◌+◌, ◌<◌, true, false, cond, inl, inr, List, [], ◌∷◌}
use Rattle.std.proofs.Common.{◌++◌, length, take, get_or, refl, ap, sym, ◌∙◌, subst, arith, add-one, Bor}
use Rattle.std.specs.Prelude.{not}
use Rattle.std.specs.List.{Contains}
use Rattle.std.proofs.lemmas.Bool.{cases_Bool}
use Rattle.basil_types.specs.Transaction.{TransactionValue, version_of}
use Rattle.basil_types.specs.Version.{below, same_version}
use Rattle.basil_types.proofs.MemberLaws.{in_none, in_head, in_tail, in_cases, in_map}
use Rattle.basil_types.proofs.VersionLaws.{same_exactly, below_itself}
use Rattle.mv_store.specs.Held as held
use Rattle.mv_store.specs.Held.{Held, NoOther, removed, entered}
use Rattle.serial_audit.specs.Parts.{told_of, all_told, lent}
use Rattle.serial_audit.specs.Writers.{IsRising}

abbrev AllUnder : TransactionValue → List TransactionValue → Type 0
AllUnder t us = (u : TransactionValue) → Contains us u → below (version_of u) (version_of t) ≡ true

apart : (u t : TransactionValue) → below (version_of u) (version_of t) ≡ true → version_of u ≡ version_of t → ⊥
apart u t b e =
    absurd (let impossible : true ≡ false = sym b ∙ ap (λ z. below z (version_of t)) e ∙ below_itself (version_of t) in cc)

pub none_other : (us : List TransactionValue) (t : TransactionValue) → AllUnder t us → NoOther (all_told us) t
none_other us t under h c e =
    let o = in_map told_of us h c in
    absurd (apart o.0 t (under o.0 o.1) (ap (λ (z : Held). held.version z) o.2 ∙ e))

pub none_removed : (us : List TransactionValue) (t : TransactionValue) → AllUnder t us → removed (all_told us) t ≡ all_told us
none_removed [] t under = refl
none_removed (u ∷ us) t under =
    ap (λ c. cond c (told_of u ∷ removed (all_told us) t) (removed (all_told us) t)) kept
    ∙ ap (λ z. told_of u ∷ z) (none_removed us t (λ x h. under x (in_tail u us x h)))
  where
    kept : not (same_version (version_of t) (version_of u)) ≡ true
    kept = elim (cases_Bool (same_version (version_of t) (version_of u))) [
      | inl s ↦ absurd (apart u t (under u (in_head u us)) (sym ((same_exactly (version_of t) (version_of u)).0 s)))
      | inr s ↦ ap not s
    ]

told_behind : (us : List TransactionValue) (t : TransactionValue) → all_told us ++ told_of t ∷ [] ≡ all_told (us ++ t ∷ [])
told_behind [] t = refl
told_behind (u ∷ us) t = ap (λ z. told_of u ∷ z) (told_behind us t)

-- entered behind those below it
pub entered_behind : (us : List TransactionValue) (t : TransactionValue) → AllUnder t us
    → entered (all_told us) t 0 true ≡ all_told (us ++ t ∷ [])
entered_behind us t under = ap (λ z. z ++ told_of t ∷ []) (none_removed us t under) ∙ told_behind us t

-- the first ones of a rising list are below the next
pub under_next : (ts : List TransactionValue) → IsRising ts → (k : ℕ) (t : TransactionValue) → k < length ts → t ≡ get_or ts k t
    → AllUnder t (take k ts)
under_next [] s k t lt e u h = absurd (omega (arith, lt))
under_next (x ∷ ts) s zero t lt e u h = absurd (in_none u h)
under_next (x ∷ ts) s (suc k) t lt e u h = elim (in_cases x (take k ts) u h) [
  | inl i ↦ subst (λ z. below (version_of z) (version_of t) ≡ true) i (s.0 t (k, omega (arith, lt), sym e))
  | inr i ↦ under_next ts s.1 k t (omega (arith, lt)) e u i
]

-- ---- lent ones

lent_at : (ts : List (Bor TransactionValue)) (k : ℕ) (t : Bor TransactionValue) → t ≡ get_or ts k t → t.now ≡ get_or (lent ts) k t.now
lent_at [] k t e = refl
lent_at (x ∷ ts) zero t e = ap (λ (z : Bor TransactionValue). z.now) e
lent_at (x ∷ ts) (suc k) t e = lent_at ts k t e

lent_length : (ts : List (Bor TransactionValue)) (k : ℕ) → k < length ts → k < length (lent ts)
lent_length [] k h = h
lent_length (x ∷ ts) zero h = omega arith
lent_length (x ∷ ts) (suc k) h = let more = lent_length ts k (omega (arith, h)) in omega (arith, more)

first_and_next : (ts : List TransactionValue) (k : ℕ) (t : TransactionValue) → k < length ts → t ≡ get_or ts k t
    → take k ts ++ t ∷ [] ≡ take (suc k) ts
first_and_next [] k t lt e = absurd (omega (arith, lt))
first_and_next (x ∷ ts) zero t lt e = ap (λ z. z ∷ []) e
first_and_next (x ∷ ts) (suc k) t lt e = ap (λ z. x ∷ z) (first_and_next ts k t (omega (arith, lt)) e)

pub lent_under : (ts : List (Bor TransactionValue)) → IsRising (lent ts) → (k : ℕ) (t : Bor TransactionValue) → k < length ts
    → t ≡ get_or ts k t → AllUnder t.now (take k (lent ts))
lent_under ts s k t lt e = under_next (lent ts) s k t.now (lent_length ts k lt) (lent_at ts k t e)

pub entered_next : (ts : List (Bor TransactionValue)) → IsRising (lent ts) → (k : ℕ) (t : Bor TransactionValue) → k < length ts
    → t ≡ get_or ts k t → entered (all_told (take k (lent ts))) t.now 0 true ≡ all_told (take (k + 1) (lent ts))
entered_next ts s k t lt e =
    entered_behind (take k (lent ts)) t.now (lent_under ts s k t lt e)
    ∙ ap all_told (first_and_next (lent ts) k t.now (lent_length ts k lt) (lent_at ts k t e))
    ∙ ap (λ j. all_told (take j (lent ts))) (sym (add-one k))
