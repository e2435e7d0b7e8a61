use Rattle.std.specs.Prelude.{ℕ, Bool, true, false, List}
use Rattle.std.specs.Str.{bytes_eq}

-- the id of a transaction, of which nothing but equality is used
abbrev pub Id : Type 0
Id = List ℕ

abbrev pub same_id : Id → Id → Bool
same_id x y = bytes_eq x y

pub data Decision : Type 0 where
  Commit : Decision
  Abort : Decision

abbrev pub same_decision : Decision → Decision → Bool
same_decision Commit Commit = true
same_decision Commit Abort = false
same_decision Abort Commit = false
same_decision Abort Abort = true

-- what a replica signs about a transaction: its vote; what it has logged, in which view that was decided and
-- which view it is in; what it gives into the election of a view; what it proposes as the leader of a view
pub data Word : Type 0 where
  Vote : (shard replica : ℕ) (id : Id) (decision : Decision) → Word
  LogReply : (shard replica : ℕ) (id : Id) (decision : Decision) (decided current : ℕ) → Word
  Election : (shard replica : ℕ) (id : Id) (decision : Decision) (view : ℕ) → Word
  Proposal : (shard replica : ℕ) (id : Id) (decision : Decision) (view : ℕ) → Word
