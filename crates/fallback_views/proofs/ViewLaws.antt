-- The greatest of the views that pass a test, and how many reports count for a lower view.
use Rattle.std.proofs.Common.{◌≡◌, ℕ, ◌+◌, ◌-◌, ◌<◌, ◌≤◌, ◌⊎◌, inl, inr, Bool, true, cond}
use Rattle.std.proofs.Common.{max, min, List, [], ◌∷◌, Option, Some, None, refl, subst, arith}
use Rattle.std.specs.Prelude.{filter, fold, nat_le, nat_lt, unwrap_or, ◌^◌}
use Rattle.std.specs.List.{AllByRecursion}
use Rattle.std.proofs.lemmas.Bool.{cases_lt, cond_both, leb-true, ltb-true, le-leb, lt-ltb}
use Rattle.std.proofs.lemmas.List.Sums.{sum_by-cons}
use Rattle.std.proofs.lemmas.List.Elements.{recursion_from_All}
use Rattle.std.specs.Option.{option_map_or}
use Rattle.quorum_laws.specs.Numbers.{catch_up, view_over}
use Rattle.fallback_views.specs.Views.{count, reached_by, greatest, caught_up, next, IsView, RaisedIsView}

-- ---- the greatest

all_pass : (p : ℕ → Bool) (views : List ℕ) → AllByRecursion (λ v. p v ≡ true) (filter p views)
all_pass p [] = tt
all_pass p (v ∷ views) =
    cond_both (p v) (v ∷ filter p views)
    (filter p views) (AllByRecursion (λ v. p v ≡ true)) (λ e. (e, all_pass p views)) (λ _. all_pass p views)

greater_passes : (p : ℕ → Bool) (a b : ℕ) → p a ≡ true → p b ≡ true → p (max a b) ≡ true
greater_passes p a b h k = by (cases_lt a b)
  where
    by : (a < b) ⊎ (b ≤ a) → p (max a b) ≡ true
    by (inl q) = let is : max a b ≡ b = omega arith in rw is k
    by (inr q) = let is : max a b ≡ a = omega arith in rw is h

fold_passes : (p : ℕ → Bool) (a : ℕ) (views : List ℕ) → p a ≡ true → AllByRecursion (λ v. p v ≡ true) views → p (fold max a views) ≡ true
fold_passes p a [] h all = h
fold_passes p a (v ∷ views) h all = fold_passes p (max a v) views (greater_passes p a v h all.0) all.1

among : (p : ℕ → Bool) (views : List ℕ) (v : ℕ) → AllByRecursion (λ v. p v ≡ true) views → greatest views ≡ Some v → p v ≡ true
among p [] v all e = absurd cc
among p (a ∷ views) v all e = let is : fold max a views ≡ v = cc in subst (λ m. p m ≡ true) is (fold_passes p a views all.0 all.1)

all_kept : (p q : ℕ → Bool) (views : List ℕ) → AllByRecursion (λ v. p v ≡ true) views → AllByRecursion (λ v. p v ≡ true) (filter q views)
all_kept p q [] all = tt
all_kept p q (v ∷ views) all =
    cond_both (q v) (v ∷ filter q views)
    (filter q views) (AllByRecursion (λ v. p v ≡ true)) (λ _. (all.0, all_kept p q views all.1)) (λ _. all_kept p q views all.1)

-- ---- reports

one_more : (u v w : ℕ) → u ≤ v → (let n : ℕ = cond (nat_le v w) 1 0 in n) ≤ cond (nat_le u w) 1 0
one_more u v w h =
    cond_both (nat_le v w) 1 0 (λ n. n ≤ cond (nat_le u w) 1 0)
    (λ e. let up : u ≤ w = omega (arith, leb-true v w e) in rw le-leb (omega arith))
    (λ _. omega arith)

-- what counts for a view counts for each lower one
pub count_lower : (views : List ℕ) (u v : ℕ) → u ≤ v → count views v ≤ count views u
count_lower [] u v h = omega arith
count_lower (w ∷ views) u v h =
    let more = one_more u v w h in
    omega (
      arith,
      sum_by-cons (λ w. cond (nat_le v w) 1 0) w views,
      sum_by-cons (λ w. cond (nat_le u w) 1 0) w views,
      count_lower views u v h,
    )

-- the greatest that this many reached, and the greatest above the current one that they did
reached_many : (many : ℕ) (views : List ℕ) (v : ℕ) → greatest (reached_by many views) ≡ Some v → many ≤ count views v
reached_many many views v e =
    let reached = λ (u : ℕ). nat_le many (count views u) in
    leb-true many (count views v) (among reached (reached_by many views) v (all_pass reached views) e)

above_reached_many : (many : ℕ) (views : List ℕ) (current v : ℕ) →
    greatest (filter (nat_lt current) (reached_by many views)) ≡ Some v → many ≤ count views v
above_reached_many many views current v e =
    let reached = λ (u : ℕ). nat_le many (count views u) in
    let higher = filter (nat_lt current) (reached_by many views) in
    leb-true many (count views v)
    (among reached higher v (all_kept reached (nat_lt current) (reached_by many views) (all_pass reached views)) e)

above_current : (views : List ℕ) (current v : ℕ) → greatest (filter (nat_lt current) views) ≡ Some v → current < v
above_current views current v e =
    ltb-true current v (among (nat_lt current) (filter (nat_lt current) views) v (all_pass (nat_lt current) views) e)

pub over-backed : (many top : ℕ) (views : List ℕ) (current over new : ℕ) →
    greatest (reached_by many views) ≡ Some over → new ≡ max (min (over + 1) top) current → current < new → many ≤ count views (new - 1)
over-backed many top views current over new e is up =
    let many_reached = reached_many many views over e in
    let below : new - 1 ≤ over = omega arith in
    omega (arith, count_lower views (new - 1) over below)

pub caught_up-never_falls : (views : List ℕ) (current : ℕ) → current ≤ caught_up views current
caught_up-never_falls views current = by (greatest (filter (nat_lt current) views)) refl
  where
    by : (o : Option ℕ) → greatest (filter (nat_lt current) views) ≡ o → current ≤ unwrap_or o current
    by None e = omega arith
    by (Some v) e = omega (arith, above_current views current v e)

pub caught_up-backed : (many : ℕ) (views : List ℕ) (current : ℕ) →
    current < caught_up (reached_by many views) current → many ≤ count views (caught_up (reached_by many views) current - 1)
caught_up-backed many views current = by (greatest (filter (nat_lt current) (reached_by many views))) refl
  where
    by : (o : Option ℕ) → greatest (filter (nat_lt current) (reached_by many views)) ≡ o →
        current < unwrap_or o current → many ≤ count views (unwrap_or o current - 1)
    by None e up = absurd (omega arith)
    by (Some v) e up =
        let reached = above_reached_many many views current v e in
        let below : v - 1 ≤ v = omega arith in
        omega (arith, count_lower views (v - 1) v below)

-- ---- views of 64 bits

abbrev has_view : ℕ → Bool
has_view view = nat_lt view (2 ^ 64)

all_have : (views : List ℕ) → AllByRecursion IsView views → AllByRecursion (λ v. has_view v ≡ true) views
all_have [] h = tt
all_have (v ∷ views) h = (lt-ltb v (2 ^ 64) h.0, all_have views h.1)

pub raised_is_view : RaisedIsView
raised_is_view f views current all fits = by (greatest (reached_by (view_over f) views)) (greatest higher) refl
  where
    higher : List ℕ
    higher = filter (nat_lt current) (reached_by (catch_up f) views)

    each : AllByRecursion (λ v. has_view v ≡ true) higher
    each =
        all_kept has_view (nat_lt current) (reached_by (catch_up f) views)
        (all_kept has_view (λ v. nat_le (catch_up f) (count views v)) views (all_have views (recursion_from_All IsView views all)))

    by : (over caught : Option ℕ) → greatest higher ≡ caught →
        IsView (option_map_or (λ over. max (next over) current) over (unwrap_or caught current))
    by (Some over) caught e = omega (arith, fits)
    by None None e = fits
    by None (Some v) e = ltb-true v (2 ^ 64) (among has_view higher v each e)
