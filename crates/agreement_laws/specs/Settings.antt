use Rattle.std.specs.Prelude.{◌≡◌, ℕ, ◌≤◌, Bool, true, false}
use Rattle.quorum_laws.specs.Numbers.{replicas}
use Rattle.quorum_laws.specs.Sets.{size}
use Rattle.agreement_laws.specs.Words.{Id}

-- a cluster, and what is fixed of each transaction. Shards, replicas of a shard and views are numbers
pub record Setting : Type 0 where
  pub f : ℕ
  -- whether a replica of a shard is faulty
  pub faulty : (shard replica : ℕ) → Bool
  -- whether a transaction has a key of a shard
  pub involved : (id : Id) (shard : ℕ) → Bool
  -- the shard that logs its decision
  pub log_shard : (id : Id) → ℕ
  -- the replica of that shard that leads a view
  pub leader : (id : Id) (view : ℕ) → ℕ
  -- whether two transactions conflict on a key of a shard
  pub conflict : (x y : Id) (shard : ℕ) → Bool
  -- whether x read a version of y that was only prepared, of a key of a shard
  pub depends : (x y : Id) (shard : ℕ) → Bool

-- what makes it sane
pub record Sane (c : Setting) : Type 0 where
  -- at most f replicas of each shard are faulty
  pub few : (shard : ℕ) → size (c.faulty shard) (replicas c.f) ≤ c.f
  pub not_itself : (x : Id) (shard : ℕ) → c.conflict x x shard ≡ false
  pub both_ways : (x y : Id) (shard : ℕ) → c.conflict x y shard ≡ true → c.conflict y x shard ≡ true
  pub on_a_key : (x y : Id) (shard : ℕ) → c.conflict x y shard ≡ true → c.involved x shard ≡ true
  pub of_a_key : (x y : Id) (shard : ℕ) → c.depends x y shard ≡ true → c.involved x shard ≡ true
