-- What a transaction that is entered or removed changes at the keys.
use Rattle.std.specs.Prelude.{◌≡◌, ℕ, false, List, Option, Some, option_map, ◌&&◌, Contains}
use Rattle.std.specs.List.{list_any}
use Rattle.std.specs.Str.{bytes_eq}
use Rattle.basil_types.specs.declared.version.Version.{Version}
use Rattle.basil_types.specs.declared.transaction.parts.ReadPart.{ReadPart}
use Rattle.basil_types.specs.declared.transaction.parts.WritePart.{WritePart}
use Rattle.basil_types.specs.Transaction.{TransactionValue, version_of, key_of_read, key_of_write}
use Rattle.mv_store.specs.declared.index.Entered.{Entered}
use Rattle.mv_store.specs.declared.index.Reader.{Reader}
use Rattle.mv_store.specs.declared.keys.Keys.{Keys}
use Rattle.basil_types.specs.Version.{same_version}
use Rattle.mv_store.specs.Keys.{HasKey, writer_slot, reader_slot, noted_of}

-- the slots of one version at the keys of these items become these, and all others stay
pub record Puts {P A : Type 0} (key_of : P → List ℕ) (slot_of : P → Option A) (items : List P) (version : Version)
    (old new : List ℕ → Version → Option A) : Type 0 where
  pub put : (x : P) → Contains items x → new (key_of x) version ≡ slot_of x
  pub others : (k : List ℕ) (v : Version)
      → (list_any (λ x. bytes_eq (key_of x) k) items && same_version version v) ≡ false → new k v ≡ old k v

-- the slot that a write leaves
abbrev pub slot_of_write : Option Entered → WritePart → Option (Option Entered)
slot_of_write told w = option_map Some told

-- what is told of a read of an entered transaction
abbrev pub reader_of : ReadPart → Entered → Reader
reader_of r e = record { read = r.version; entered = e }

-- the slot that a read leaves
abbrev pub slot_of_read : Option Entered → ReadPart → Option (Option Reader)
slot_of_read told r = option_map (λ e. Some (reader_of r e)) told

-- all that changes is what is told at a version of the writers of the keys of these writes
pub record PutsWrites (old new : Keys) (writes : List WritePart) (version : Version) (told : Option Entered)
    : Type 0 where
  pub writers : Puts key_of_write (slot_of_write told) writes version (writer_slot old) (writer_slot new)
  pub readers : (k : List ℕ) (v : Version) → reader_slot new k v ≡ reader_slot old k v
  pub noted : (k : List ℕ) → noted_of new k ≡ noted_of old k
  pub keys : (k : List ℕ) → HasKey old k → HasKey new k

-- the same of the readers of the keys of these reads
pub record PutsReads (old new : Keys) (reads : List ReadPart) (version : Version) (told : Option Entered) : Type 0 where
  pub writers : (k : List ℕ) (v : Version) → writer_slot new k v ≡ writer_slot old k v
  pub readers : Puts key_of_read (slot_of_read told) reads version (reader_slot old) (reader_slot new)
  pub noted : (k : List ℕ) → noted_of new k ≡ noted_of old k
  pub keys : (k : List ℕ) → HasKey old k → HasKey new k

-- all that changes is what is told at the version of a transaction of the keys that it writes and reads
pub record Tells (old new : Keys) (t : TransactionValue) (told : Option Entered) : Type 0 where
  pub writers : Puts key_of_write (slot_of_write told) t.writes (version_of t) (writer_slot old) (writer_slot new)
  pub readers : Puts key_of_read (slot_of_read told) t.reads (version_of t) (reader_slot old) (reader_slot new)
  pub noted : (k : List ℕ) → noted_of new k ≡ noted_of old k
  pub keys : (k : List ℕ) → HasKey old k → HasKey new k
