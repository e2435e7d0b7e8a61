-- The order of versions.
use Rattle.std.proofs.Common.{◌≡◌, ◌⊎◌, inl, inr, Bool, true, false, List, ℕ, zero, suc, ◌≤◌, refl, ap, sym, subst, ◌∙◌, arith}
use Rattle.std.specs.Prelude.{replicate, ◌&&◌, ◌==◌}
use Rattle.std.specs.declared.cmp.Ordering.{Ordering}
use Rattle.std.specs.declared.cmp.Ordering.TheVariants.{Less, Equal, Greater}
use Rattle.std.specs.Ordering.{nat_cmp, ordering_then, is_eq, is_lt, ordering_reverse}
use Rattle.std.specs.Cmp.{IsTotalOrder, nat_cmp_is}
use Rattle.std.specs.Cmp.Lexicographic.{slice_cmp, nat_list_cmp_total}
use Rattle.std.specs.Str.{bytes_eq}
use Rattle.std.proofs.lemmas.Bool.{cases_Bool, and_parts, and_from, eqb-true, eq-eqb}
use Rattle.std.proofs.lemmas.Cmp.{nat_cmp_total, on_total, then_total, tied_itself, alike_right}
use Rattle.std.proofs.lemmas.Map.Lookups.{CmpEqualImpliesEq, exact_unsigned, exact_bytes, exact_pairs}
use Rattle.std.proofs.lemmas.Map.Views.{tells_apart}
use Rattle.std.proofs.lemmas.Slice.Eq.{bytes_eq-Decides}
use Rattle.basil_types.specs.Version.{version_cmp, below, genesis, same_version, AreInOrder, AreToldApart}
use Rattle.basil_types.specs.declared.version.Version.{Version}

pub version_total : IsTotalOrder version_cmp
version_total =
    then_total (on_total (λ (v : Version). v.time) nat_cmp_total)
    (then_total (on_total (λ (v : Version). v.client) nat_cmp_total) (on_total (λ (v : Version). v.id) nat_list_cmp_total))

made : ℕ × (ℕ × List ℕ) → Version
made p = record { time = p.0; client = (p.1).0; id = (p.1).1 }

pub version_exact : CmpEqualImpliesEq version_cmp
unfolding made
version_exact a b e =
    ap made (exact_pairs nat_cmp (λ (x y : ℕ × List ℕ). ordering_then (nat_cmp x.0 y.0) (slice_cmp nat_cmp x.1 y.1)) exact_unsigned
    (exact_pairs nat_cmp (slice_cmp nat_cmp) exact_unsigned exact_bytes) (a.time, (a.client, a.id)) (b.time, (b.client, b.id)) e)

pub version_tells : (a b : Version) → is_eq (version_cmp a b) ≡ true → a ≡ b
version_tells a b e = tells_apart version_exact a b e

less : (o : Ordering) → is_lt o ≡ true → o ≡ Less
less Less e = refl
less Equal e = absurd cc
less Greater e = absurd cc

pub below_less : (a b : Version) → below a b ≡ true → version_cmp a b ≡ Less
below_less a b e = less (version_cmp a b) e

pub below_trans : (a b c : Version) → below a b ≡ true → below b c ≡ true → below a c ≡ true
below_trans a b c p q = ap is_lt (version_total.trans a b c (below_less a b p) (below_less b c q))

-- ---- a total order

pub below_itself : (a : Version) → below a a ≡ false
below_itself a = ap is_lt (tied_itself version_total a)

-- what is below one that isn't above another is below that
pub below_upto : (q x y : Version) → below y x ≡ false → below q x ≡ true → below q y ≡ true
below_upto q x y h p = by (version_cmp y x) refl
  where
    by : (o : Ordering) → version_cmp y x ≡ o → below q y ≡ true
    by Less e = let impossible : true ≡ false = sym (ap is_lt e) ∙ h in absurd cc
    by Equal e = ap is_lt (alike_right version_total y x q e) ∙ p
    by Greater e = below_trans q x y p (ap is_lt (version_total.antisymm x y ∙ ap ordering_reverse e))

pub not_below_trans : (a b c : Version) → below a b ≡ false → below b c ≡ false → below a c ≡ false
not_below_trans a b c p q = by (below a c) refl
  where
    by : (t : Bool) → below a c ≡ t → t ≡ false
    by true e = let impossible : true ≡ false = sym (below_upto a c b q e) ∙ p in absurd cc
    by false e = refl

pub not_below_back : (a b : Version) → below a b ≡ true → below b a ≡ false
not_below_back a b p = by (below b a) refl
  where
    by : (t : Bool) → below b a ≡ t → t ≡ false
    by true e = let impossible : true ≡ false = sym (below_trans a b a p e) ∙ below_itself a in absurd cc
    by false e = refl

pub same_from_neither : (a b : Version) → below a b ≡ false → below b a ≡ false → a ≡ b
same_from_neither a b p q = by (version_cmp a b) refl
  where
    by : (o : Ordering) → version_cmp a b ≡ o → a ≡ b
    by Less e = absurd (let impossible : true ≡ false = sym (ap is_lt e) ∙ p in cc)
    by Equal e = version_exact a b e
    by Greater e = absurd (let impossible : true ≡ false = sym (ap is_lt (version_total.antisymm b a ∙ ap ordering_reverse e)) ∙ q in cc)

pub less_below : (a b : Version) → version_cmp a b ≡ Less → below a b ≡ true
less_below a b e = ap is_lt e

pub not_both : (a b : Version) → below a b ≡ true → below b a ≡ true → ⊥
not_both a b p q = let impossible : true ≡ false = sym (below_trans a b a p q) ∙ below_itself a in absurd cc

-- a time that isn't 0 puts a version above genesis
pub genesis_below : (v : Version) → (v.time ≡ 0 → ⊥) → below genesis v ≡ true
genesis_below v n =
    ap (λ o. is_lt (ordering_then o (ordering_then (nat_cmp 0 v.client) (slice_cmp nat_cmp (replicate 32 0) v.id)))) (first v.time n)
  where
    first : (time : ℕ) → (time ≡ 0 → ⊥) → nat_cmp 0 time ≡ Less
    first zero h = absurd (h refl)
    first (suc time) h = sym (nat_cmp_is 0 (suc time) Less (omega arith))

same_parts : (a b : Version) → a.time ≡ b.time → a.client ≡ b.client → a.id ≡ b.id → a ≡ b
same_parts a b e f g = λ i. record { time = e i; client = f i; id = g i }

pub same_exactly : AreToldApart
same_exactly a b = (to, from)
  where
    to : same_version a b ≡ true → a ≡ b
    to h =
        let p = and_parts ((a.time == b.time) && (a.client == b.client)) (bytes_eq a.id b.id) h in
        let q = and_parts (a.time == b.time) (a.client == b.client) p.0 in
        same_parts a b (eqb-true a.time b.time q.0) (eqb-true a.client b.client q.1) ((bytes_eq-Decides a.id b.id).0 p.1)

    from : a ≡ b → same_version a b ≡ true
    from e =
        and_from _ _
        (and_from _ _ (eq-eqb a.time b.time (ap (λ (v : Version). v.time) e))
        (eq-eqb a.client b.client (ap (λ (v : Version). v.client) e)))
        ((bytes_eq-Decides a.id b.id).1 (ap (λ (v : Version). v.id) e))

-- the order finds the same versions
pub tied_is_same : (a b : Version) → is_eq (version_cmp a b) ≡ same_version a b
tied_is_same a b = by (is_eq (version_cmp a b)) (same_version a b) refl refl
  where
    by : (x y : Bool) → is_eq (version_cmp a b) ≡ x → same_version a b ≡ y → x ≡ y
    by true true p q = refl
    by false false p q = refl
    by true false p q = absurd (let h = sym q ∙ (same_exactly a b).1 (version_tells a b p) in cc)
    by false true p q =
        absurd (let h = sym p ∙ subst (λ v. is_eq (version_cmp a v) ≡ true)
        ((same_exactly a b).0 q) (ap is_eq (tied_itself version_total a)) in cc)

less_first : (o p : Ordering) → Less ≡ o → is_lt (ordering_then o p) ≡ true
less_first o p e = ap (λ r. is_lt (ordering_then r p)) (sym e)

genesis_first : (time client : ℕ) (id : List ℕ) → 1 ≤ client → below genesis (record { time = time; client = client; id = id }) ≡ true
genesis_first zero client id h =
    less_first (nat_cmp 0 client) (slice_cmp nat_cmp (replicate 32 0) id) (nat_cmp_is 0 client Less (omega (arith, h)))
genesis_first (suc time) client id h =
    less_first (nat_cmp 0 (suc time)) (ordering_then (nat_cmp 0 client) (slice_cmp nat_cmp (replicate 32 0) id))
    (nat_cmp_is 0 (suc time) Less (omega arith))

-- and so does a client
pub genesis_under : (v : Version) → 1 ≤ v.client → below genesis v ≡ true
genesis_under v h = genesis_first v.time v.client v.id h

pub in_order : AreInOrder
in_order = record { irreflexive = below_itself; transitive = below_trans; total = by }
  where
    by : (a b : Version) → (below a b ≡ true) ⊎ ((a ≡ b) ⊎ (below b a ≡ true))
    by a b = elim (cases_Bool (below a b)) [
      | inl e ↦ inl e
      | inr e ↦ inr (elim (cases_Bool (below b a)) [ inl f ↦ inr f | inr f ↦ inl (same_from_neither a b e f) ])
    ]
