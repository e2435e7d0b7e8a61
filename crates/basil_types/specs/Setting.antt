-- The numbers of a cluster.
use Rattle.std.specs.Prelude.{ℕ, ◌≤◌}
use Rattle.quorum_laws.specs.Numbers.{one_correct, correct_ones}

pub record Setting : Type 0 where
  pub f : ℕ
  pub shards : ℕ
  pub reads : ℕ
  pub delta : ℕ

pub record IsSetting (c : Setting) : Type 0 where
  pub faulty : c.f ≤ 6
  pub some : 1 ≤ c.shards
  pub few : c.shards ≤ 8
  pub enough : one_correct c.f ≤ c.reads
  pub correct : c.reads ≤ correct_ones c.f
