-- What tables promise of ids, of what is stored, and of released votes.
use Rattle.std.specs.Prelude.{◌≡◌, ℕ, ◌+◌, ◌≤◌, ◌++◌, ◌∷◌, [], List, Bool, true}
use Rattle.std.specs.Prelude.{Option, Some, None, option_map, slice_get, length, ⊤}
use Rattle.std.specs.List.{IsDistinct}
use Rattle.std.specs.Str.{bytes_eq}
use Rattle.basil_types.specs.declared.party.Party.{Party}
use Rattle.basil_types.specs.declared.party.Decision.{Decision}
use Rattle.basil_types.specs.Transaction.{TransactionValue}
use Rattle.basil_types.specs.Transaction as transactions
use Rattle.txn_table.specs.declared.released.Home.{Home}
use Rattle.txn_table.specs.declared.released.Supposed.{Supposed}
use Rattle.txn_table.specs.Entries.{Voted, OutcomeValue, EntryValue, arrived}
use Rattle.txn_table.specs.Entries.{asked, voted, decided, is_waiting, decision_of}
use Rattle.txn_table.specs.Released.{released}
use Rattle.txn_table.specs.Stored.{are_stored}
use Rattle.txn_table.specs.Tables.{id_of, ids_of, place_of, entry_with, changed}

-- ---- ids and places

-- what happens to an entry leaves its transaction
abbrev pub KeepsTransactions : (EntryValue → EntryValue) → Type 0
KeepsTransactions f = (e : EntryValue) → (f e).transaction ≡ e.transaction

pub record IdsTellPlaces : Type 0 where
  -- at the place of an id stands the entry of that id
  pub found : (entries : List EntryValue) (id : List ℕ) (place : ℕ) → place_of entries id ≡ Some place
      → option_map id_of (slice_get entries place) ≡ Some id
  -- and where the ids differ, each entry stands at the place of its id
  pub placed : (entries : List EntryValue) (place : ℕ) (e : EntryValue) → IsDistinct bytes_eq (ids_of entries)
      → slice_get entries place ≡ Some e → place_of entries (id_of e) ≡ Some place
  -- one that arrives stands behind all others
  pub arrives : (entries : List EntryValue) (t : TransactionValue) → place_of entries (transactions.id t) ≡ None
      → place_of (entries ++ arrived t ∷ []) (transactions.id t) ≡ Some (length entries)
  -- and moves none of them
  pub stays : (entries : List EntryValue) (t : TransactionValue) (id : List ℕ) (place : ℕ)
      → place_of entries id ≡ Some place
      → place_of (entries ++ arrived t ∷ []) id ≡ Some place
  -- a change of an entry moves none
  pub unmoved : (f : EntryValue → EntryValue) (entries : List EntryValue) (place : ℕ) (id : List ℕ)
      → KeepsTransactions f
      → place_of (changed f place entries) id ≡ place_of entries id
  -- it changes the entry of the id that stands there
  pub changes : (f : EntryValue → EntryValue) (entries : List EntryValue) (place : ℕ) (id : List ℕ)
      → KeepsTransactions f
      → place_of entries id ≡ Some place
      → entry_with (changed f place entries) id ≡ option_map f (entry_with entries id)
  -- and no other
  pub others : (f : EntryValue → EntryValue) (entries : List EntryValue) (place : ℕ) (id : List ℕ) → KeepsTransactions f
      → (place_of entries id ≡ Some place → ⊥) → entry_with (changed f place entries) id ≡ entry_with entries id

-- ---- what is stored

-- where each stored signature and certificate passes these tests, they still do after each change that stores such
pub record StoredStays (signature certificate : List ℕ → Bool) : Type 0 where
  pub arrives : (entries : List EntryValue) (t : TransactionValue) → are_stored signature certificate entries ≡ true
      → are_stored signature certificate (entries ++ arrived t ∷ []) ≡ true
  pub asks : (entries : List EntryValue) (place : ℕ) (asker : Party) → are_stored signature certificate entries ≡ true
      → are_stored signature certificate (changed (asked asker) place entries) ≡ true
  pub votes : (entries : List EntryValue) (place : ℕ) (vote : Decision) (bytes : List ℕ) (proof : Option ℕ)
      → are_stored signature certificate entries ≡ true → signature bytes ≡ true
      → are_stored signature certificate (changed (voted vote bytes proof) place entries) ≡ true
  pub decides : (entries : List EntryValue) (place : ℕ) (outcome : Decision) (bytes : List ℕ)
      → are_stored signature certificate entries ≡ true → certificate bytes ≡ true
      → are_stored signature certificate (changed (decided outcome bytes) place entries) ≡ true
  -- and what an entry shows passes its test
  pub signed : (entries : List EntryValue) (place : ℕ) (e : EntryValue) (vote : Decision)
      (bytes : List ℕ) (proof : Option ℕ)
      → are_stored signature certificate entries ≡ true → slice_get entries place ≡ Some e
      → e.vote ≡ Voted vote bytes proof
      → signature bytes ≡ true
  pub proven : (entries : List EntryValue) (place : ℕ) (e : EntryValue) (outcome : OutcomeValue)
      → are_stored signature certificate entries ≡ true → slice_get entries place ≡ Some e → e.outcome ≡ Some outcome
      → certificate outcome.certificate ≡ true

-- ---- released votes

-- the entry at the place waits, has no outcome, and isn't the one that is supposed to have one
pub record CanBeReleased (s : Supposed) (entries : List EntryValue) (place : ℕ) : Type 0 where
  pub entry : EntryValue
  pub at : slice_get entries place ≡ Some entry
  pub waits : is_waiting entry.vote ≡ true
  pub undecided : decision_of entry ≡ None
  pub other : place ≡ s.place → ⊥

-- the places ascend from this one on, and each entry there can be released
abbrev pub Ascend : Supposed → List EntryValue → ℕ → List (ℕ × Decision) → Type 0
Ascend s entries least [] = ⊤
Ascend s entries least (vote ∷ votes) =
    (least ≤ vote.0) × CanBeReleased s entries vote.0 × Ascend s entries (vote.0 + 1) votes

abbrev pub ReleasedAscend : Type 0
ReleasedAscend = (home : Home) (s : Supposed) (entries : List EntryValue) → Ascend s entries 0 (released home s entries)
