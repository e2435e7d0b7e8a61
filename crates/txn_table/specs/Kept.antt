-- What a table keeps beside its entries.
use Rattle.std.specs.Prelude.{◌≡◌, ℕ, ◌+◌, ◌<◌, ◌^◌, List, [], true, Option, None, map, length, All}
use Rattle.std.specs.Option.{ForSome}
use Rattle.basil_types.specs.Spare.{Spare}
use Rattle.basil_types.specs.declared.party.Party.{Party}
use Rattle.indexmap.specs.IndexMap.{IndexMap, keys, values, spare}
use Rattle.txn_table.specs.declared.entry.Entry.{Entry}
use Rattle.txn_table.specs.declared.waiters.Waiters.{Waiters}
use Rattle.txn_table.specs.Entries.{EntryValue}
use Rattle.txn_table.specs.Shown.{entry_of, has_room}
use Rattle.txn_table.specs.Tables.{IsProofBelow, id_of, ids_of, place_of}
use Rattle.txn_table.specs.Waiters.{AreListed}

module _ {S : Type 0} where
  abbrev pub shown : IndexMap (List ℕ) Entry S → List EntryValue
  shown m = map entry_of (values m)

  -- one more entry, with one asker, takes no memory
  pub record CanInsert (m : IndexMap (List ℕ) Entry S) (askers : Spare Party) : Type 0 where
    pub few : length m.entries + 1 < 2 ^ 32
    pub entry : 0 < spare m
    pub asker : 0 < askers.room

  -- there is room for the transaction of this id: for an entry, where it isn't held, and for an asker
  pub record HasRoom (m : IndexMap (List ℕ) Entry S) (askers : Spare Party) (id : List ℕ) : Type 0 where
    pub entry : place_of (shown m) id ≡ None → CanInsert m askers
    pub asker : All (λ e. id_of (entry_of e) ≡ id → has_room e ≡ true) (values m)

  pub record IsKept (m : IndexMap (List ℕ) Entry S) (askers : Spare Party) (waiters : Waiters)
      (room : Option (List ℕ)) : Type 0 where
    -- each key is the id of its transaction
    pub ids : keys m ≡ ids_of (shown m)
    pub few : length m.entries < 2 ^ 32
    pub proofs : All (IsProofBelow (length (shown m))) (shown m)
    -- nobody waits for the next entry yet
    pub none : askers.items ≡ []
    pub made : ForSome room (HasRoom m askers)
    pub waits : AreListed waiters (shown m)
