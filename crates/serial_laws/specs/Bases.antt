-- What is fixed of a run of real transactions, and the setting of the laws of agreement that it gives.
use Rattle.std.specs.Prelude.{◌≡◌, ℕ, ◌≤◌, Bool, false}
use Rattle.basil_types.specs.Setting as cluster
use Rattle.basil_types.specs.Transaction.{TransactionValue, id}
use Rattle.txn_meta.specs.Conflicts.{conflict_in}
use Rattle.txn_meta.specs.Places.{involves, log_shard, leader_of}
use Rattle.quorum_laws.specs.Numbers.{replicas}
use Rattle.quorum_laws.specs.Sets.{size}
use Rattle.agreement_laws.specs.Words.{Id}
use Rattle.agreement_laws.specs.Settings as agreement
use Rattle.serial_laws.specs.Dependencies.{depends_on}

-- What stays the same while a run goes on: the numbers of its cluster, which replicas of which shards and which clients
-- are faulty, and which transaction an id names. The laws of agreement know ids alone; by this look-up they come to
-- speak of keys.
pub record Basis : Type 0 where
  pub numbers : cluster.Setting
  pub faulty : (shard replica : ℕ) → Bool
  pub faulty_client : (client : ℕ) → Bool
  -- in a run no two transactions have one id; what an id names that no transaction of the run has is nobody's concern
  pub text : Id → TransactionValue

-- at most f replicas of each shard are faulty
abbrev pub IsSane : Basis → Type 0
IsSane b = (shard : ℕ) → size (b.faulty shard) (replicas b.numbers.f) ≤ b.numbers.f

-- A text of the run: a transaction that its own id names. Each law here speaks of texts, since the laws of agreement
-- know a transaction by its id.
abbrev pub IsText : Basis → TransactionValue → Type 0
IsText b t = b.text (id t) ≡ t

abbrev pub IsOfCorrectClient : Basis → TransactionValue → Type 0
IsOfCorrectClient b t = b.faulty_client t.client ≡ false

-- what the laws of agreement speak of, made of the transactions' keys, reads, writes and versions
abbrev pub setting_of : Basis → agreement.Setting
setting_of b = record {
  f = b.numbers.f;
  faulty = b.faulty;
  involved = λ x s. involves b.numbers (b.text x) s;
  log_shard = λ x. log_shard b.numbers (b.text x);
  leader = λ x v. leader_of b.numbers (b.text x).time v;
  conflict = λ x y s. conflict_in b.numbers s (b.text x) (b.text y);
  depends = λ x y s. depends_on b.numbers s (b.text x) y;
}
