-- Which messages of a pool wait.
use Rattle.std.proofs.Common.{◌≡◌, ◌+◌, ◌≤◌, ◌<◌, ℕ, zero, suc, Bool, true, false, List, []}
use Rattle.std.proofs.Common.{◌∷◌, Option, Some, None, length, refl, sym, ap, subst, ◌∙◌, arith}
use Rattle.std.specs.Prelude.{◌-◌, ◌&&◌, cond, not, drop, option_map, position}
use Rattle.std.specs.Prelude.{slice_get, slice_index_or, slice_set, unwrap_or}
use Rattle.std.specs.List.{position_from, sum_by}
use Rattle.std.proofs.lemmas.Iterator.Adapters.{position_from-zero}
use Rattle.std.proofs.lemmas.List.Sums.{sum-map, sum_by-set}
use Rattle.std.proofs.lemmas.Option.{get_or_from_slice_get, slice_get-get_or, slice_get_within}
use Rattle.message_pool.specs.declared.posted.Posted.{Posted}
use Rattle.message_pool.specs.Posts.{have_passed, is_waiting, pool_bytes, waiting_behind}

abbrev pub waits : Posted → Bool
waits p = is_waiting p.fate

-- ---- the search

shift_at : (w : Bool) (n i : ℕ) (xs : List Posted) →
    position_from waits (n + (i + 1)) xs ≡ option_map (λ k. n + k) (position_from waits (i + 1) xs) →
    cond w (Some (n + i)) (position_from waits (n + i + 1) xs) ≡ option_map (λ k. n + k) (cond w (Some i) (position_from waits (i + 1) xs))
shift_at true n i xs e = refl
shift_at false n i xs e = ap (λ k. position_from waits k xs) (omega arith) ∙ e

shifted : (n i : ℕ) (xs : List Posted) → position_from waits (n + i) xs ≡ option_map (λ k. n + k) (position_from waits i xs)
shifted n i [] = refl
shifted n i (x ∷ xs) = shift_at (waits x) n i xs (shifted n (i + 1) xs)

pub found_from : (start : ℕ) (xs : List Posted) → option_map (λ k. start + k) (position waits xs) ≡ position_from waits start xs
found_from start xs =
    ap (option_map (λ k. start + k)) (position_from-zero waits xs)
    ∙ sym (shifted start 0 xs) ∙ ap (λ k. position_from waits k xs) (omega arith)

-- ---- what doesn't wait is passed over

skip_at : (w : Bool) (i n : ℕ) (xs : List Posted) →
    (have_passed n xs ≡ true → position_from waits (i + 1) xs ≡ position_from waits (i + 1 + n) (drop n xs)) →
    (not w && have_passed n xs) ≡ true →
    cond w (Some i) (position_from waits (i + 1) xs) ≡ position_from waits (i + suc n) (drop n xs)
skip_at true i n xs e h = absurd cc
skip_at false i n xs e h = e h ∙ ap (λ m. position_from waits m (drop n xs)) (omega arith)

skipped : (i n : ℕ) (xs : List Posted) → have_passed n xs ≡ true → position_from waits i xs ≡ position_from waits (i + n) (drop n xs)
skipped i zero xs h = ap (λ k. position_from waits k xs) (omega arith)
skipped i (suc n) [] h = refl
skipped i (suc n) (x ∷ xs) h = skip_at (waits x) i n xs (skipped (i + 1) n xs) h

passed_at : (w a b : Bool) → (a ≡ true → b ≡ true) → (not w && a) ≡ true → (not w && b) ≡ true
passed_at true a b e h = absurd cc
passed_at false a b e h = e h

fewer : (b m : ℕ) (xs : List Posted) → have_passed (b + m) xs ≡ true → have_passed b xs ≡ true
fewer zero m xs h = refl
fewer (suc b) m [] h = refl
fewer (suc b) m (x ∷ xs) h =
    let more : suc b + m ≡ suc (b + m) = omega arith in
    passed_at (waits x) _ _ (fewer b m xs) (subst (λ n. have_passed n (x ∷ xs) ≡ true) more h)

-- behind what doesn't wait the search finds the same
pub found_behind : (before count : ℕ) (xs : List Posted) → before ≤ count → have_passed count xs ≡ true →
    position_from waits before (drop before xs) ≡ position_from waits count (drop count xs)
found_behind before count xs below h =
    let whole : before + (count - before) ≡ count = omega (arith, below) in
    let few = fewer before (count - before) xs (subst (λ n. have_passed n xs ≡ true) (sym whole) h) in
    let from : (n : ℕ) → position_from waits (0 + n) (drop n xs) ≡ position_from waits n (drop n xs) =
    λ n. ap (λ k. position_from waits k (drop n xs)) (omega arith) in
    sym (from before) ∙ sym (skipped 0 before xs few) ∙ skipped 0 count xs h ∙ from count

added : (b : ℕ) (o : Option ℕ) → option_map (λ k. b + k + 1) o ≡ option_map (λ k. k + 1) (option_map (λ k. b + k) o)
added b None = refl
added b (Some k) = refl

number_of : (b : ℕ) (xs : List Posted) → waiting_behind b xs ≡ option_map (λ k. k + 1) (position_from waits b (drop b xs))
number_of b xs = added b (position waits (drop b xs)) ∙ ap (option_map (λ k. k + 1)) (found_from b (drop b xs))

pub behind_same : (before count : ℕ) (xs : List Posted) → before ≤ count → have_passed count xs ≡ true →
    waiting_behind count xs ≡ waiting_behind before xs
behind_same before count xs below h =
    number_of count xs ∙ sym (ap (option_map (λ k. k + 1)) (found_behind before count xs below h)) ∙ sym (number_of before xs)

-- ---- what the search shows

passed_more : (b m : ℕ) (xs : List Posted) → have_passed b xs ≡ true → have_passed m (drop b xs) ≡ true → have_passed (b + m) xs ≡ true
passed_more zero m xs h k =
    let same : m ≡ 0 + m = omega arith in
    subst (λ n. have_passed n xs ≡ true) same k
passed_more (suc b) m [] h k =
    let more : suc (b + m) ≡ suc b + m = omega arith in
    subst (λ n. have_passed n [] ≡ true) more refl
passed_more (suc b) m (x ∷ xs) h k =
    let more : suc (b + m) ≡ suc b + m = omega arith in
    subst (λ n. have_passed n (x ∷ xs) ≡ true) more (passed_at (waits x) _ _ (λ e. passed_more b m xs e k) h)

record Stopped (i : ℕ) (xs : List Posted) (k : ℕ) : Type 0 where
  behind : ℕ
  at : k ≡ i + behind
  passed : have_passed behind xs ≡ true
  within : behind ≤ length xs

stop_here : (i : ℕ) (xs : List Posted) (k : ℕ) → Some i ≡ Some k → Stopped i xs k
stop_here i xs k e =
    let same = ap (λ (o : Option ℕ). unwrap_or o 0) e in
    record { behind = 0; at = omega (arith, same); passed = refl; within = omega arith }

stop_later : (i : ℕ) (x : Posted) (xs : List Posted) (k : ℕ) → waits x ≡ false → Stopped (i + 1) xs k → Stopped i (x ∷ xs) k
stop_later i x xs k e s =
    let at = s.at in
    let within = s.within in
    record {
      behind = suc s.behind;
      at = omega (arith, at);
      passed = subst (λ (w : Bool). (not w && have_passed s.behind xs) ≡ true) (sym e) s.passed;
      within = omega (arith, within);
    }

stop_at : (w : Bool) (i : ℕ) (x : Posted) (xs : List Posted) (k : ℕ) → waits x ≡ w →
    (position_from waits (i + 1) xs ≡ Some k → Stopped (i + 1) xs k) →
    cond w (Some i) (position_from waits (i + 1) xs) ≡ Some k → Stopped i (x ∷ xs) k
stop_at true i x xs k e next h = stop_here i (x ∷ xs) k h
stop_at false i x xs k e next h = stop_later i x xs k e (next h)

stopped : (i : ℕ) (xs : List Posted) (k : ℕ) → position_from waits i xs ≡ Some k → Stopped i xs k
stopped i [] k h = absurd cc
stopped i (x ∷ xs) k h = stop_at (waits x) i x xs k refl (stopped (i + 1) xs k) h

all_passed_at : (w : Bool) (i : ℕ) (xs : List Posted) → (position_from waits (i + 1) xs ≡ None → have_passed (length xs) xs ≡ true) →
    cond w (Some i) (position_from waits (i + 1) xs) ≡ None → (not w && have_passed (length xs) xs) ≡ true
all_passed_at true i xs next h = absurd cc
all_passed_at false i xs next h = next h

all_passed : (i : ℕ) (xs : List Posted) → position_from waits i xs ≡ None → have_passed (length xs) xs ≡ true
all_passed i [] h = refl
all_passed i (x ∷ xs) h = all_passed_at (waits x) i xs (all_passed (i + 1) xs) h

length_drop : (n : ℕ) (xs : List Posted) → n ≤ length xs → n + length (drop n xs) ≡ length xs
length_drop zero xs h = omega arith
length_drop (suc n) [] h = absurd (omega (arith, h))
length_drop (suc n) (x ∷ xs) h = let e = length_drop n xs (omega (arith, h)) in omega (arith, e)

-- the first messages up to the one that waits don't
pub passed_to : (start place : ℕ) (xs : List Posted) → start ≤ length xs → have_passed start xs ≡ true →
    Some place ≡ position_from waits start (drop start xs) → (have_passed place xs ≡ true) × (place ≤ length xs)
passed_to start place xs few h e =
    let s = stopped start (drop start xs) place (sym e) in
    let at = s.at in
    let within = s.within in
    let whole = length_drop start xs few in
    (subst (λ n. have_passed n xs ≡ true) (sym at) (passed_more start s.behind xs h s.passed), omega (arith, at, within, whole))

-- where none waits none of all does
pub passed_all : (start : ℕ) (xs : List Posted) → start ≤ length xs → have_passed start xs ≡ true →
    None ≡ position_from waits start (drop start xs) → have_passed (length xs) xs ≡ true
passed_all start xs few h e =
    subst (λ n. have_passed n xs ≡ true) (length_drop start xs few)
    (passed_more start (length (drop start xs)) xs h (all_passed start (drop start xs) (sym e)))

-- ---- one message that changes

abbrev size : Posted → ℕ
size p = length p.frame

pub bytes_kept : (xs : List Posted) (i : ℕ) (p q : Posted) → slice_get xs i ≡ Some p → length q.frame ≡ length p.frame →
    pool_bytes (slice_set xs i q) ≡ pool_bytes xs
bytes_kept xs i p q g e =
    let moved = sum_by-set size xs i q p (slice_get_within xs i p g) in
    let here = ap size (get_or_from_slice_get xs i p p g) in
    let same : sum_by size (slice_set xs i q) ≡ sum_by size xs = omega (arith, moved, here, e) in
    sum-map size (slice_set xs i q) ∙ same ∙ sym (sum-map size xs)

both_passed : (a b : Bool) → (a && b) ≡ true → b ≡ true
both_passed true b h = h
both_passed false b h = absurd cc

pub passes_kept : (count : ℕ) (xs : List Posted) (i : ℕ) (q : Posted) → waits q ≡ false → have_passed count xs ≡ true →
    have_passed count (slice_set xs i q) ≡ true
passes_kept zero xs i q e h = refl
passes_kept (suc n) [] i q e h = h
passes_kept (suc n) (x ∷ xs) zero q e h =
    subst (λ (w : Bool). (not w && have_passed n xs) ≡ true) (sym e) (both_passed (not (waits x)) (have_passed n xs) h)
passes_kept (suc n) (x ∷ xs) (suc i) q e h = passed_at (waits x) _ _ (passes_kept n xs i q e) h

pub bytes_kept_at : (xs : List Posted) (i : ℕ) (d q : Posted) → i < length xs → length q.frame ≡ length (slice_index_or xs i d).frame →
    pool_bytes (slice_set xs i q) ≡ pool_bytes xs
bytes_kept_at xs i d q below e = bytes_kept xs i (slice_index_or xs i d) q (slice_get-get_or xs i d below) e
