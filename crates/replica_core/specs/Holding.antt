-- The table and the store of a replica.
use Rattle.std.specs.Prelude.{◌≡◌, ◌++◌, ◌∷◌, [], List, Option, Some, None, true}
use Rattle.basil_types.specs.Transaction.{TransactionValue}
use Rattle.mv_store.specs.declared.store.Store.{Store}
use Rattle.mv_store.specs.Store.{HasRoom}
use Rattle.mvtso_check.specs.Standing.{StandsAfter}
use Rattle.txn_table.specs.Entries.{EntryValue, Unvoted, arrived, is_waiting}
use Rattle.replica_core.specs.declared.known.Known.{Known}

-- ---- what the store stands for

-- where the store stood for the entries and some noted reads, it stands for them after
abbrev pub KeepsNoted : (old new : Known) → Type 0
KeepsNoted old new = StandsAfter old.store old.table.entries new.store new.table.entries

-- ---- changes

-- the entries with one that arrives, perhaps
abbrev pub arrived_in : List EntryValue → Option TransactionValue → List EntryValue
arrived_in entries None = entries
arrived_in entries (Some t) = entries ++ arrived t ∷ []

-- there is room for the transaction of an entry
abbrev pub HasStoreRoom : Store → EntryValue → Type 0
HasStoreRoom store e = HasRoom store e.transaction

-- an entry without a vote for which nobody waits
abbrev pub IsUnvoted : EntryValue → Type 0
IsUnvoted e = e.vote ≡ Unvoted

-- an entry without a vote for which somebody waits
abbrev pub IsWaiting : EntryValue → Type 0
IsWaiting e = is_waiting e.vote ≡ true
