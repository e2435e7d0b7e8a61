-- What a cluster file says: numbers as they are, however great, and texts as their bytes.
use Rattle.std.specs.Prelude.{ℕ, List}
use Rattle.lms_sign.specs.declared.sets.LmsSet.{LmsSet}

pub record ReplicaValue : Type 0 where
  pub shard : ℕ
  pub index : ℕ
  pub address : List ℕ
  pub public : List ℕ

pub record ClientValue : Type 0 where
  pub number : ℕ
  pub public : List ℕ

-- the five members that are no list
pub record HeadValue : Type 0 where
  pub f : ℕ
  pub shards : ℕ
  pub reads : ℕ
  pub delta : ℕ
  pub set : LmsSet

pub record FileValue : Type 0 where
  pub head : HeadValue
  pub replicas : List ReplicaValue
  pub clients : List ClientValue
