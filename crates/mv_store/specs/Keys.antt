-- The keys, each with its index.
use Rattle.std.specs.Prelude.{◌≡◌, ℕ, List, Option, None, Some, option_map}
use Rattle.std.specs.Prelude.{option_and_then, unwrap_or, IsSome, ◌&&◌, if◌then◌else◌}
use Rattle.std.specs.Str.{bytes_eq}
use Rattle.indexmap.specs.IndexMap.{get_by}
use Rattle.basil_types.specs.declared.version.Version.{Version}
use Rattle.mv_store.specs.declared.index.Entered.{Entered}
use Rattle.mv_store.specs.declared.index.Reader.{Reader}
use Rattle.mv_store.specs.declared.index.KeyIndex.{KeyIndex}
use Rattle.mv_store.specs.declared.keys.Keys.{Keys}
use Rattle.mv_store.specs.Noted.{greatest}
use Rattle.basil_types.specs.Version.{same_version}
use Rattle.mv_store.specs.Slots.{slot_at}

-- the index of the key with these bytes
abbrev pub index_of : Keys → List ℕ → Option KeyIndex
index_of keys key = get_by (λ k. bytes_eq key k.items) keys.map

abbrev pub HasKey : Keys → List ℕ → Type 0
HasKey keys key = IsSome (index_of keys key)

-- the slot of a writer of a key, by its version
abbrev pub writer_slot : Keys → List ℕ → Version → Option (Option Entered)
writer_slot keys key v = option_and_then (λ i. slot_at i.writers v) (index_of keys key)

-- the slot of a reader of a key, by its version
abbrev pub reader_slot : Keys → List ℕ → Version → Option (Option Reader)
reader_slot keys key v = option_and_then (λ i. slot_at i.readers v) (index_of keys key)

-- the greatest noted read of a key
abbrev pub noted_of : Keys → List ℕ → Option (ℕ × ℕ)
noted_of keys key = option_and_then (λ i. i.noted) (index_of keys key)

-- what is told of a writer of a key, by its version
abbrev pub writer_at : Keys → List ℕ → Version → Option Entered
writer_at keys key v = unwrap_or (writer_slot keys key v) None

-- what is told of a reader of a key, by its version
abbrev pub reader_at : Keys → List ℕ → Version → Option Reader
reader_at keys key v = unwrap_or (reader_slot keys key v) None

-- all that changes is that there is more room
pub record OnlyRoom (old new : Keys) : Type 0 where
  pub writers : (k : List ℕ) (v : Version) → writer_at new k v ≡ writer_at old k v
  pub readers : (k : List ℕ) (v : Version) → reader_at new k v ≡ reader_at old k v
  pub noted : (k : List ℕ) → noted_of new k ≡ noted_of old k
  pub writer_slots : (k : List ℕ) (v : Version) → IsSome (writer_slot old k v) → IsSome (writer_slot new k v)
  pub reader_slots : (k : List ℕ) (v : Version) → IsSome (reader_slot old k v) → IsSome (reader_slot new k v)
  pub keys : (k : List ℕ) → HasKey old k → HasKey new k

-- all that changes is that the slot of a writer of this key, of this version, tells this, or is out where nothing is
-- told
pub record PutsWriter (old new : Keys) (key : List ℕ) (version : Version) (told : Option Entered) : Type 0 where
  pub writers : (k : List ℕ) (v : Version)
      → writer_slot new k v
      ≡ (if bytes_eq key k && same_version version v then option_map Some told else writer_slot old k v)
  pub readers : (k : List ℕ) (v : Version) → reader_slot new k v ≡ reader_slot old k v
  pub noted : (k : List ℕ) → noted_of new k ≡ noted_of old k
  pub keys : (k : List ℕ) → HasKey old k → HasKey new k

-- the same of a reader
pub record PutsReader (old new : Keys) (key : List ℕ) (version : Version) (told : Option Reader) : Type 0 where
  pub writers : (k : List ℕ) (v : Version) → writer_slot new k v ≡ writer_slot old k v
  pub readers : (k : List ℕ) (v : Version)
      → reader_slot new k v
      ≡ (if bytes_eq key k && same_version version v then option_map Some told else reader_slot old k v)
  pub noted : (k : List ℕ) → noted_of new k ≡ noted_of old k
  pub keys : (k : List ℕ) → HasKey old k → HasKey new k

-- all that changes is that a read of this key is noted
pub record Notes (old new : Keys) (key : List ℕ) (read : ℕ × ℕ) : Type 0 where
  pub writers : (k : List ℕ) (v : Version) → writer_slot new k v ≡ writer_slot old k v
  pub readers : (k : List ℕ) (v : Version) → reader_slot new k v ≡ reader_slot old k v
  pub noted : (k : List ℕ)
      → noted_of new k ≡ (if bytes_eq key k then Some (greatest (noted_of old k) read) else noted_of old k)
  pub keys : (k : List ℕ) → HasKey old k → HasKey new k
