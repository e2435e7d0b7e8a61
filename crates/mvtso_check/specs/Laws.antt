-- What verdicts promise.
use Rattle.std.specs.Prelude.{◌≡◌, ◌⊎◌, ℕ, true, false, Contains}
use Rattle.basil_types.specs.declared.transaction.parts.ReadPart.{ReadPart}
use Rattle.basil_types.specs.Transaction.{TransactionValue}
use Rattle.txn_meta.specs.Conflicts.{conflict_in}
use Rattle.txn_table.specs.Entries.{EntryValue}
use Rattle.txn_table.specs.Released.{is_dependency}
use Rattle.txn_table.specs.declared.released.Home.{Home}
use Rattle.mvtso_check.specs.declared.verdict.Verdict.TheVariants.{Commit, Wait}
use Rattle.mvtso_check.specs.Book.{stands, IsSettled}
use Rattle.mvtso_check.specs.Verdict.{Book, is_crossed, must_wait, verdict}

-- no rule aborts it
abbrev pub IsLetStand : Home → ℕ → Book → TransactionValue → Type 0
IsLetStand home now book t = (verdict home now book t ≡ Commit) ⊎ (verdict home now book t ≡ Wait)

-- then nothing in the book that stands conflicts with it on a key of the shard
pub record NothingConflicts : Type 0 where
  pub none : (home : Home) (now : ℕ) (book : Book) (t : TransactionValue) → IsLetStand home now book t
      → is_crossed home book t ≡ false
  pub each : (home : Home) (now : ℕ) (book : Book) (t : TransactionValue) → IsLetStand home now book t
      → (e : EntryValue) → Contains book.entries e → stands e ≡ true
      → conflict_in home.cluster home.shard t e.transaction ≡ false

-- where the verdict is to commit, each dependency on a key of the shard is committed, and wrote the key at that version
pub record DependenciesAreSettled : Type 0 where
  pub none_waits : (home : Home) (now : ℕ) (book : Book) (t : TransactionValue) → verdict home now book t ≡ Commit
      → must_wait home book t ≡ false
  pub each : (home : Home) (now : ℕ) (book : Book) (t : TransactionValue) → verdict home now book t ≡ Commit
      → (r : ReadPart) → Contains t.reads r → is_dependency home r ≡ true → IsSettled book.entries r
