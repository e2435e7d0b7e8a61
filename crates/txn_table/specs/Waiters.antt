-- Which transactions depend on an id.
use Rattle.std.specs.Prelude.{◌≡◌, ℕ, ◌+◌, ◌-◌, ◌==◌, ◌++◌, List, [], ◌∷◌, Bool}
use Rattle.std.specs.Prelude.{true, false, ◌&&◌, length, slice_get, if◌then◌else◌}
use Rattle.std.specs.List.{list_any}
use Rattle.std.specs.Option.{option_map_or}
use Rattle.std.specs.Str.{bytes_eq}
use Rattle.indexmap.specs.IndexMap.{get_by}
use Rattle.basil_types.specs.declared.transaction.parts.ReadPart.{ReadPart}
use Rattle.basil_types.specs.Transaction.{TransactionValue}
use Rattle.txn_table.specs.declared.waiters.Waiters.{Waiters}
use Rattle.txn_table.specs.Entries.{EntryValue}

-- whether a read is a dependency on this id
abbrev pub reads_on : List ℕ → ReadPart → Bool
reads_on id r = r.dependency && bytes_eq r.version.id id

-- whether a transaction has such a read
abbrev pub waits_on : TransactionValue → List ℕ → Bool
waits_on t id = list_any (reads_on id) t.reads

-- the places of the entries, the first of which is this one, that depend on an id
abbrev pub places_from : List ℕ → ℕ → List EntryValue → List ℕ
places_from id place [] = []
places_from id place (e ∷ entries) =
    if waits_on e.transaction id then place ∷ places_from id (place + 1) entries else places_from id (place + 1) entries

abbrev pub places_on : List ℕ → List EntryValue → List ℕ
places_on id entries = places_from id 0 entries

-- the places that are listed at an id
abbrev pub listed : Waiters → List ℕ → List ℕ
listed w id = option_map_or (λ places. places.items) (get_by (bytes_eq id) w.lists) []

abbrev pub ends_with : ℕ → List ℕ → Bool
ends_with place places = option_map_or (λ last. last == place) (slice_get places (length places - 1)) false

-- the places with one more, unless it is the last of them already
abbrev pub with_place : ℕ → List ℕ → List ℕ
with_place place places = if ends_with place places then places else places ++ place ∷ []

-- nothing changes but the room
pub record SamePlaces (old new : Waiters) : Type 0 where
  pub whole : new.whole ≡ old.whole
  pub places : (id : List ℕ) → listed new id ≡ listed old id

-- where the lists are whole they were before, and all that changes is that this place is listed at these ids
pub record Adds (at : List ℕ → Bool) (old new : Waiters) (place : ℕ) : Type 0 where
  pub whole : new.whole ≡ true → old.whole ≡ true
  pub places : new.whole ≡ true → (id : List ℕ)
      → listed new id ≡ (if at id then with_place place (listed old id) else listed old id)

-- where the lists are whole, they are of exactly the entries that depend on each id
abbrev pub AreListed : Waiters → List EntryValue → Type 0
AreListed w entries = w.whole ≡ true → (id : List ℕ) → listed w id ≡ places_on id entries
