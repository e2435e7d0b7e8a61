-- What a replica votes on a transaction that it has no vote on.
use Rattle.std.specs.Prelude.{ℕ, ◌+◌, Bool, ◌||◌, ◌&&◌, ◌==◌, List, Option, None, Some, nat_lt, position, if◌then◌else◌}
use Rattle.std.specs.List.{list_any}
use Rattle.basil_types.specs.declared.transaction.parts.WritePart.{WritePart}
use Rattle.basil_types.specs.Transaction.{TransactionValue}
use Rattle.txn_meta.specs.Conflicts.{conflict_in}
use Rattle.txn_meta.specs.Places.{shard_of}
use Rattle.txn_table.specs.Entries.{EntryValue}
use Rattle.txn_table.specs.declared.released.Home.{Home}
use Rattle.txn_table.specs.Released.{is_dependency}
use Rattle.mv_store.specs.Held.{NotedRead, read_above}
use Rattle.mvtso_check.specs.declared.verdict.Verdict.{Verdict}
use Rattle.mvtso_check.specs.declared.verdict.Verdict.TheVariants.{Commit, Abort, AbortBy, Wait}
use Rattle.mvtso_check.specs.Book.{stands, has_committed, is_broken, is_open}

-- what a replica knows: the transactions in order of arrival, and the noted reads
pub record Book : Type 0 where
  pub entries : List EntryValue
  pub noted : List NotedRead

-- whether a key is of the replica's own shard
abbrev pub is_own : Home → List ℕ → Bool
is_own home key = shard_of home.cluster key == home.shard

-- ---- the rules

abbrev pub is_late : Home → ℕ → TransactionValue → Bool
is_late home now t = nat_lt (now + home.cluster.delta) t.time

abbrev pub has_broken_dependency : Home → Book → TransactionValue → Bool
has_broken_dependency home book t = list_any (λ r. is_dependency home r && is_broken book.entries r) t.reads

-- a prepared or committed transaction conflicts with it on a key of the shard
abbrev pub is_crossed : Home → Book → TransactionValue → Bool
is_crossed home book t = list_any (λ e. stands e && conflict_in home.cluster home.shard t e.transaction) book.entries

-- the write is of a key of the shard of which a read is noted above the transaction
abbrev pub is_noted_above : Home → List NotedRead → TransactionValue → WritePart → Bool
is_noted_above home noted t w = is_own home w.key && read_above w.key t.time t.client noted

abbrev pub is_read_later : Home → Book → TransactionValue → Bool
is_read_later home book t = list_any (is_noted_above home book.noted t) t.writes

-- a rule aborts it, where it is known whether one conflicts with it
abbrev pub must_abort_where : Home → ℕ → Book → TransactionValue → (crossed : Bool) → Bool
must_abort_where home now book t crossed =
    is_late home now t || has_broken_dependency home book t || crossed || is_read_later home book t

abbrev pub must_abort : Home → ℕ → Book → TransactionValue → Bool
must_abort home now book t = must_abort_where home now book t (is_crossed home book t)

abbrev pub must_wait : Home → Book → TransactionValue → Bool
must_wait home book t = list_any (λ r. is_dependency home r && is_open book.entries r) t.reads

-- the committed transaction that arrived first of those that conflict with it on a key of the shard
abbrev pub proof : Home → Book → TransactionValue → Option ℕ
proof home book t =
    position (λ e. has_committed e && conflict_in home.cluster home.shard t e.transaction) book.entries

abbrev pub aborted_by : Option ℕ → Verdict
aborted_by None = Abort
aborted_by (Some place) = AbortBy place

abbrev pub verdict : Home → ℕ → Book → TransactionValue → Verdict
verdict home now book t =
    if must_abort home now book t then aborted_by (proof home book t)
    else (if must_wait home book t then Wait else Commit)
