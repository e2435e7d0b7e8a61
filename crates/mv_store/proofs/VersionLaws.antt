-- Ranges of versions.
use Rattle.std.proofs.Common.{◌≡◌, Bool, true, false, cond, List, [], ◌∷◌, refl, ap, sym, ◌∙◌}
use Rattle.std.specs.Prelude.{not, filter, ◌&&◌}
use Rattle.std.specs.declared.cmp.Ordering.{Ordering}
use Rattle.std.specs.declared.cmp.Ordering.TheVariants.{Less, Equal, Greater}
use Rattle.std.specs.declared.ops.Bound.TheVariants.{Excluded, Unbounded}
use Rattle.std.specs.BTreeMap.Range.{range_contains}
use Rattle.std.specs.Ordering.{is_lt, is_le, ordering_reverse}
use Rattle.std.proofs.Math.Bool.{and-true}
use Rattle.basil_types.specs.Version.{version_cmp, below, is_between}
use Rattle.basil_types.specs.declared.version.Version.{Version}
use Rattle.basil_types.proofs.VersionLaws.{version_total, below_trans}

past_of : (o : Ordering) → not (is_le o) ≡ is_lt (ordering_reverse o)
past_of Less = refl
past_of Equal = refl
past_of Greater = refl

past : (a b : Version) → not (is_le (version_cmp a b)) ≡ below b a
past a b = past_of (version_cmp a b) ∙ sym (ap is_lt (version_total.antisymm b a))

pub is_in_between : (low high v : Version) → range_contains version_cmp (Excluded low) (Excluded high) v ≡ is_between low v high
is_in_between low high v = ap (λ b. below low v && b) (past high v)

pub is_before : (high v : Version) → range_contains version_cmp Unbounded (Excluded high) v ≡ below v high
is_before high v = past high v

pub is_above : (low v : Version) → range_contains version_cmp (Excluded low) Unbounded v ≡ below low v
is_above low v = and-true (below low v)

pub and_parts : (a b : Bool) → (a && b) ≡ true → (a ≡ true) × (b ≡ true)
and_parts true true e = (refl, refl)
and_parts true false e = absurd cc
and_parts false b e = absurd cc

pub nothing_between : (low high v : Version) → below low high ≡ false → range_contains version_cmp (Excluded low) (Excluded high) v ≡ false
nothing_between low high v apart = is_in_between low high v ∙ by (is_between low v high) refl
  where
    by : (b : Bool) → is_between low v high ≡ b → b ≡ false
    by false e = refl
    by true e =
        let parts = and_parts (below low v) (below v high) e in
        let impossible : true ≡ false = sym (below_trans low v high parts.0 parts.1) ∙ apart in absurd cc

pub empty_filter : {A : Type 0} (p : A → Bool) → ((x : A) → p x ≡ false) → (xs : List A) → filter p xs ≡ []
empty_filter p h [] = refl
empty_filter p h (x ∷ xs) = ap (λ b. cond b (x ∷ filter p xs) (filter p xs)) (h x) ∙ empty_filter p h xs
