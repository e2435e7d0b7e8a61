-- Before the first event the correct replicas of the cluster have a journal.
use Rattle.std.proofs.Common.{◌≡◌, ◌∙◌, ℕ, zero, suc, ◌+◌, ◌<◌, ◌≤◌, ◌⊎◌, ◌==◌, Bool, true, false, cond, List, [], ◌∷◌, ◌++◌}
use Rattle.std.proofs.Common.{arith, map, refl, sym, ap, inl, inr}
use Rattle.std.proofs.lemmas.Bool.{and_from, and_parts, cases_lt, eq-eqb, false_from_ne_true, lt-ltb, ltb-true}
use Rattle.std.specs.List.{flat_map, range_with_len}
use Rattle.std.specs.Prelude.{◌&&◌, Some, filter, is_some, nat_lt, not}
use Rattle.basil_types.specs.declared.party.Party.TheVariants.{Replica}
use Rattle.quorum_laws.specs.Numbers.{replicas}
use Rattle.run_journals.specs.Journals.{is_its, journal_at}
use Rattle.cluster_run.specs.States.{Setup, Standing, first_standing, is_faulty, shard_standing, start}
use Rattle.journaled_runs.specs.Journaling.{fresh_journals, fresh_of, is_correct}
use Rattle.journaled_runs.specs.Owners.{OwnersAreCorrect}
use Rattle.journaled_runs.proofs.Places.{same_place}

module _ (s : Setup) (shard index : ℕ) where
  abbrev good : Bool
  good = not (is_faulty s (Replica shard index))

  -- whether that of this replica is among the fresh ones of these
  abbrev has : List Standing → Bool
  has xs = is_some (journal_at (fresh_journals s xs) shard index)

  -- ---- there is one

  on_the_left : (x : Standing) (xs : List Standing) → is_correct s x ≡ true → is_its shard index (fresh_of x) ≡ true → has (x ∷ xs) ≡ true
  on_the_left x xs ok at =
      ap (λ b. is_some (journal_at (map fresh_of (cond b (x ∷ filter (is_correct s) xs) (filter (is_correct s) xs))) shard index)) ok
      ∙ ap (λ b. is_some (cond b (Some (fresh_of x)) (journal_at (fresh_journals s xs) shard index))) at

  on_the_right : (x : Standing) (xs : List Standing) → has xs ≡ true → has (x ∷ xs) ≡ true
  on_the_right x xs h = by (is_correct s x) (is_its shard index (fresh_of x)) refl
    where
      by : (b c : Bool) → is_its shard index (fresh_of x) ≡ c →
          is_some (journal_at (map fresh_of (cond b (x ∷ filter (is_correct s) xs) (filter (is_correct s) xs))) shard index) ≡ true
      by false c e = h
      by true true e = ap (λ b. is_some (cond b (Some (fresh_of x)) (journal_at (fresh_journals s xs) shard index))) e
      by true false e = ap (λ b. is_some (cond b (Some (fresh_of x)) (journal_at (fresh_journals s xs) shard index))) e ∙ h

  behind : (xs ys : List Standing) → has ys ≡ true → has (xs ++ ys) ≡ true
  behind [] ys h = h
  behind (x ∷ xs) ys h = on_the_right x (xs ++ ys) (behind xs ys h)

  module _ (ok : good ≡ true) where
    -- the one of this place
    this_one : (k i : ℕ) (xs : List Standing) → k ≡ shard → i ≡ index → has (first_standing s k i ∷ xs) ≡ true
    this_one k i xs a b =
        on_the_left (first_standing s k i) xs
        (ap (λ (n : ℕ). not (is_faulty s (Replica n i))) a ∙ ap (λ (n : ℕ). not (is_faulty s (Replica shard n))) b ∙ ok)
        (and_from (k == shard) (i == index) (eq-eqb k shard a) (eq-eqb i index b))

    in_row : (k a n : ℕ) (ys : List Standing) → k ≡ shard → a ≤ index → index < a + n →
        has (map (first_standing s k) (range_with_len a n) ++ ys) ≡ true
    in_row k a zero ys e low high = absurd (omega arith)
    in_row k a (suc n) ys e low high =
        by (in_row k (a + 1) n ys e) (cases_lt a index)
      where
        by : (a + 1 ≤ index → index < a + 1 + n → has (map (first_standing s k) (range_with_len (a + 1) n) ++ ys) ≡ true) →
            (a < index) ⊎ (index ≤ a) →
            has (first_standing s k a ∷ (map (first_standing s k) (range_with_len (a + 1) n) ++ ys)) ≡ true
        by later (inl less) =
            on_the_right (first_standing s k a) (map (first_standing s k) (range_with_len (a + 1) n) ++ ys)
            (later (omega arith) (omega arith))
        by later (inr more) =
            this_one k a (map (first_standing s k) (range_with_len (a + 1) n) ++ ys) e (omega arith)

    in_rows : (a n : ℕ) → a ≤ shard → shard < a + n → index < replicas s.cluster.f →
        has (flat_map (shard_standing s) (range_with_len a n)) ≡ true
    in_rows a zero low high few = absurd (omega arith)
    in_rows a (suc n) low high few = by (in_rows (a + 1) n) (cases_lt a shard)
      where
        by : (a + 1 ≤ shard → shard < a + 1 + n → index < replicas s.cluster.f →
            has (flat_map (shard_standing s) (range_with_len (a + 1) n)) ≡ true) →
            (a < shard) ⊎ (shard ≤ a) →
            has (shard_standing s a ++ flat_map (shard_standing s) (range_with_len (a + 1) n)) ≡ true
        by later (inl less) =
            behind (shard_standing s a) (flat_map (shard_standing s) (range_with_len (a + 1) n))
            (later (omega arith) (omega arith) few)
        by later (inr more) =
            in_row a 0 (replicas s.cluster.f) (flat_map (shard_standing s) (range_with_len (a + 1) n)) (omega arith)
            (omega arith) (omega arith)

  -- ---- and no other

  -- what one at this place tells
  record IsHere (x : Standing) : Type 0 where
    shard_is : x.shard ≡ shard
    index_is : x.index ≡ index
    correct : good ≡ true

  first_or : (x : Standing) (xs : List Standing) → has (x ∷ xs) ≡ true → IsHere x ⊎ (has xs ≡ true)
  first_or x xs h = by (is_correct s x) (is_its shard index (fresh_of x)) refl refl h
    where
      here : is_correct s x ≡ true → is_its shard index (fresh_of x) ≡ true → IsHere x
      here ok at =
          let e = same_place x.shard x.index shard index at in
          record {
            shard_is = e.0;
            index_is = e.1;
            correct = ap (λ (n : ℕ). not (is_faulty s (Replica n index))) (sym e.0)
                ∙ ap (λ (n : ℕ). not (is_faulty s (Replica x.shard n))) (sym e.1) ∙ ok;
          }

      by : (b c : Bool) → is_correct s x ≡ b → is_its shard index (fresh_of x) ≡ c →
          is_some (journal_at (map fresh_of (cond b (x ∷ filter (is_correct s) xs) (filter (is_correct s) xs))) shard index) ≡ true →
          IsHere x ⊎ (has xs ≡ true)
      by false c ok at k = inr k
      by true true ok at k = inl (here ok at)
      by true false ok at k =
          inr (sym (ap (λ b. is_some (cond b (Some (fresh_of x)) (journal_at (fresh_journals s xs) shard index))) at) ∙ k)

  -- it is in this row, or behind it
  record IsInRow (k most : ℕ) : Type 0 where
    row : k ≡ shard
    below : index < most
    correct : good ≡ true

  row_or : (k a n : ℕ) (ys : List Standing) → has (map (first_standing s k) (range_with_len a n) ++ ys) ≡ true →
      IsInRow k (a + n) ⊎ (has ys ≡ true)
  row_or k a zero ys h = inr h
  row_or k a (suc n) ys h =
      by (row_or k (a + 1) n ys) (first_or (first_standing s k a) (map (first_standing s k) (range_with_len (a + 1) n) ++ ys) h)
    where
      later : IsInRow k (a + 1 + n) ⊎ (has ys ≡ true) → IsInRow k (a + suc n) ⊎ (has ys ≡ true)
      later (inl r) = inl (record { row = r.row; below = let b = r.below in omega arith; correct = r.correct })
      later (inr r) = inr r

      by : (has (map (first_standing s k) (range_with_len (a + 1) n) ++ ys) ≡ true → IsInRow k (a + 1 + n) ⊎ (has ys ≡ true)) →
          IsHere (first_standing s k a) ⊎ (has (map (first_standing s k) (range_with_len (a + 1) n) ++ ys) ≡ true) →
          IsInRow k (a + suc n) ⊎ (has ys ≡ true)
      by next (inl x) = inl (record { row = x.shard_is; below = let b = x.index_is in omega arith; correct = x.correct })
      by next (inr x) = later (next x)

  record IsInside (most : ℕ) : Type 0 where
    row : shard < most
    below : index < replicas s.cluster.f
    correct : good ≡ true

  rows_only : (a n : ℕ) → has (flat_map (shard_standing s) (range_with_len a n)) ≡ true → IsInside (a + n)
  rows_only a zero h = absurd cc
  rows_only a (suc n) h =
      by (rows_only (a + 1) n) (row_or a 0 (replicas s.cluster.f) (flat_map (shard_standing s) (range_with_len (a + 1) n)) h)
    where
      by : (has (flat_map (shard_standing s) (range_with_len (a + 1) n)) ≡ true → IsInside (a + 1 + n)) →
          IsInRow a (0 + replicas s.cluster.f) ⊎ (has (flat_map (shard_standing s) (range_with_len (a + 1) n)) ≡ true) →
          IsInside (a + suc n)
      by next (inl r) = record {
        row = let b = r.row in omega arith;
        below = let b = r.below in omega arith;
        correct = r.correct;
      }
      by next (inr k) = let r = next k in record {
        row = let b = r.row in omega arith;
        below = r.below;
        correct = r.correct;
      }

  -- ---- both

  abbrev inside : Bool
  inside = nat_lt shard s.cluster.shards && (nat_lt index (replicas s.cluster.f) && good)

  -- two tests of which each leads to the other
  same_tests : (a b : Bool) → (a ≡ true → b ≡ true) → (b ≡ true → a ≡ true) → a ≡ b
  same_tests true b f g = sym (f refl)
  same_tests false b f g = sym (false_from_ne_true b (λ e. let no = g e in cc))

  correct_begin : has (start s).replicas ≡ inside
  correct_begin = same_tests (has (start s).replicas) inside forth back
    where
      forth : has (start s).replicas ≡ true → inside ≡ true
      forth h =
          let r = rows_only 0 s.cluster.shards h in
          let row = r.row in
          and_from (nat_lt shard s.cluster.shards) (nat_lt index (replicas s.cluster.f) && good)
          (lt-ltb shard s.cluster.shards (omega arith))
          (and_from (nat_lt index (replicas s.cluster.f)) good (lt-ltb index (replicas s.cluster.f) r.below) r.correct)

      back : inside ≡ true → has (start s).replicas ≡ true
      back h =
          let p = and_parts (nat_lt shard s.cluster.shards) (nat_lt index (replicas s.cluster.f) && good) h in
          let q = and_parts (nat_lt index (replicas s.cluster.f)) good p.1 in
          let row = ltb-true shard s.cluster.shards p.0 in
          in_rows q.1 0 s.cluster.shards (omega arith) (omega arith) (ltb-true index (replicas s.cluster.f) q.0)

pub owners_are_correct : OwnersAreCorrect
owners_are_correct s true shard index = correct_begin s shard index
owners_are_correct s false shard index = refl
