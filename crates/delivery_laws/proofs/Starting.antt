-- Each replica of the cluster stands at the start.
use Rattle.std.proofs.Common.{◌≡◌, ◌∙◌, ℕ, zero, suc, ◌+◌, ◌<◌, ◌≤◌, ◌==◌, Bool, cond, List, [], ◌∷◌, Option, Some, None}
use Rattle.std.proofs.Common.{refl, ap, arith, map, ◌⊎◌, inl, inr}
use Rattle.std.proofs.lemmas.Bool.{cases_eq, eq-eqb, ne_eqb}
use Rattle.std.proofs.lemmas.List.Folds.{find-append}
use Rattle.std.specs.List.{flat_map, range_with_len}
use Rattle.std.specs.Option.{option_or}
use Rattle.std.specs.Prelude.{◌&&◌, find, option_map}
use Rattle.quorum_laws.specs.Numbers.{replicas}
use Rattle.cluster_run.specs.States.{Setup, Standing, first_standing, is_at, shard_standing}
use Rattle.delivery_laws.specs.Laws.{BooksBeginEmpty}

module _ (s : Setup) (a b : ℕ) where
  -- in another shard it isn't found
  elsewhere : (shard : ℕ) → (shard ≡ a → ⊥) → (rs : List ℕ) → find (is_at a b) (map (first_standing s shard) rs) ≡ None
  elsewhere shard other [] = refl
  elsewhere shard other (r ∷ rs) =
      ap (λ (t : Bool). cond (t && (r == b)) (Some (first_standing s shard r)) (find (is_at a b) (map (first_standing s shard) rs)))
      (ne_eqb shard a other)
      ∙ elsewhere shard other rs

  in_shard : (from len : ℕ) → from ≤ b → b < from + len →
      find (is_at a b) (map (first_standing s a) (range_with_len from len)) ≡ Some (first_standing s a b)
  in_shard from zero l h = absurd (omega (arith, l, h))
  in_shard from (suc len) l h =
      by (λ n. in_shard (from + 1) len (omega (arith, l, n)) (omega (arith, h))) (cases_eq from b)
    where
      rest : Option Standing
      rest = find (is_at a b) (map (first_standing s a) (range_with_len (from + 1) len))

      by : ((from ≡ b → ⊥) → rest ≡ Some (first_standing s a b)) → (from ≡ b) ⊎ (from ≡ b → ⊥) →
          cond ((a == a) && (from == b)) (Some (first_standing s a from)) rest ≡ Some (first_standing s a b)
      by later (inl e) =
          ap (λ (t : Bool). cond (t && (from == b)) (Some (first_standing s a from)) rest) (eq-eqb a a refl)
          ∙ ap (λ (t : Bool). cond t (Some (first_standing s a from)) rest) (eq-eqb from b e)
          ∙ ap (λ n. Some (first_standing s a n)) e
      by later (inr n) =
          ap (λ (t : Bool). cond (t && (from == b)) (Some (first_standing s a from)) rest) (eq-eqb a a refl)
          ∙ ap (λ (t : Bool). cond t (Some (first_standing s a from)) rest) (ne_eqb from b n)
          ∙ later n

  found_first : (from len : ℕ) → from ≤ a → a < from + len → b < replicas s.cluster.f →
      find (is_at a b) (flat_map (shard_standing s) (range_with_len from len)) ≡ Some (first_standing s a b)
  found_first from zero l h k = absurd (omega (arith, l, h))
  found_first from (suc len) l h k =
      find-append (is_at a b) (shard_standing s from) (flat_map (shard_standing s) (range_with_len (from + 1) len))
      ∙ by (λ n. found_first (from + 1) len (omega (arith, l, n)) (omega (arith, h)) k) (cases_eq from a)
    where
      rest : Option Standing
      rest = find (is_at a b) (flat_map (shard_standing s) (range_with_len (from + 1) len))

      by : ((from ≡ a → ⊥) → rest ≡ Some (first_standing s a b)) → (from ≡ a) ⊎ (from ≡ a → ⊥) →
          option_or (find (is_at a b) (shard_standing s from)) rest ≡ Some (first_standing s a b)
      by later (inl e) =
          ap (λ n. option_or (find (is_at a b) (shard_standing s n)) rest) e
          ∙ ap (λ o. option_or o rest) (in_shard 0 (replicas s.cluster.f) (omega arith) (omega (arith, k)))
      by later (inr n) =
          ap (λ o. option_or o rest) (elsewhere from n (range_with_len 0 (replicas s.cluster.f))) ∙ later n

pub books_begin_empty : BooksBeginEmpty
books_begin_empty s a b h k =
    ap (option_map (λ (x : Standing). x.book)) (found_first s a b 0 s.cluster.shards (omega arith) (omega (arith, h)) k)
