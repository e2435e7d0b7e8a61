-- Transactions as they are known, or as they arrive.
use Rattle.std.specs.Prelude.{◌≡◌, ℕ, List, Option, None, Some, option_map, slice_get, unwrap_or, false}
use Rattle.basil_types.specs.Transaction.{TransactionValue, id}
use Rattle.txn_table.specs.Entries.{EntryValue, Unvoted, arrived, is_voted, decision_of}
use Rattle.txn_table.specs.Tables.{id_of, entry_with, changed}
use Rattle.replica_core.specs.declared.known.Known.{Known}
use Rattle.replica_core.specs.declared.arriving.Arrival.{Arrival}
use Rattle.replica_core.specs.Holding.{arrived_in}
use Rattle.replica_core.specs.Known.{with_known, known_of, changed_at}
use Rattle.replica_core.specs.KnownWorks.{CanArrive, CanEnter}

-- the entry of a transaction, as it is known or as it arrives
abbrev pub entry_now : List EntryValue → TransactionValue → EntryValue
entry_now entries t = unwrap_or (entry_with entries (id t)) (arrived t)

abbrev pub IsOpen : EntryValue → Type 0
IsOpen e = decision_of e ≡ None

-- without vote and outcome
abbrev pub IsUndecided : EntryValue → Type 0
IsUndecided e = (is_voted e.vote ≡ false) × (decision_of e ≡ None)

-- and without anybody waiting
abbrev pub IsUntouched : EntryValue → Type 0
IsUntouched e = (e.vote ≡ Unvoted) × (decision_of e ≡ None)

-- a change of the entry of a transaction, once it is known, is a change at this place
abbrev pub ChangesAt : List EntryValue → TransactionValue → List EntryValue → ℕ → Type 0
ChangesAt entries t after place =
    (f : EntryValue → EntryValue) → changed_at f (id t) (with_known entries t) ≡ changed f place after

-- with this arrival something can happen to a transaction of these entries
pub record IsPlace (entries : List EntryValue) (t : TransactionValue) (known : Known) (a : Arrival) : Type 0 where
  pub arrives : CanArrive known.table a.arrives
  pub enters : CanEnter known.store (arrived_in known.table.entries a.arrives) a.place
  pub room : known.table.room ≡ option_map id_of (slice_get (arrived_in known.table.entries a.arrives) a.place)
  pub at : slice_get (arrived_in known.table.entries a.arrives) a.place ≡ Some (entry_now entries t)
  pub change : ChangesAt entries t (arrived_in entries a.arrives) a.place
  pub change_known : ChangesAt entries (known_of entries t) (arrived_in entries a.arrives) a.place
  pub named : id (known_of entries t) ≡ id t

abbrev pub arrival_at : Option TransactionValue → ℕ → Arrival
arrival_at arrives place = record { arrives = arrives; place = place }
