-- A transaction, its canonical bytes, its id and its version, and what is a transaction.
use Rattle.std.specs.Prelude.{◌≡◌, ℕ, Bool, ◌≤◌, ◌∷◌, ◌++◌, []}
use Rattle.std.specs.Prelude.{List, true, false, length, ◌==◌, if◌then◌else◌}
use Rattle.std.specs.List.{flat_map, list_any}
use Rattle.std.specs.Str.{bytes_eq}
use Rattle.std.specs.Int.{to_be_bytes, w64, w16}
use Rattle.basil_types.specs.Limits.{IsU64, most_clients, most_keys}
use Rattle.basil_types.specs.Id.{id_of}
use Rattle.basil_types.specs.Lists.{AreItems}
use Rattle.basil_types.specs.Texts.{IsKey, IsValue, IsVersion, key_below}
use Rattle.basil_types.specs.declared.version.Version.{Version}
use Rattle.basil_types.specs.declared.transaction.parts.ReadPart.{ReadPart}
use Rattle.basil_types.specs.declared.transaction.parts.WritePart.{WritePart}

pub record TransactionValue : Type 0 where
  pub format : ℕ
  pub time : ℕ
  pub client : ℕ
  pub reads : List ReadPart
  pub writes : List WritePart

-- a text of fewer than 256 bytes behind its length
abbrev pub short_text : List ℕ → List ℕ
short_text bytes = length bytes ∷ bytes

-- a text of fewer than 65,536 bytes behind its length
abbrev pub long_text : List ℕ → List ℕ
long_text bytes = to_be_bytes w16 (length bytes) ++ bytes

abbrev pub version_bytes : Version → List ℕ
version_bytes v = to_be_bytes w64 v.time ++ v.client ∷ v.id

abbrev pub read_bytes : ReadPart → List ℕ
read_bytes r = short_text r.key ++ version_bytes r.version ++ (if r.dependency then 1 else 0) ∷ []

-- in format 2 a flag tells whether there is a value
abbrev pub written_bytes : ℕ → WritePart → List ℕ
written_bytes format w =
    if format == 1 then long_text w.value else (if w.deletes then 0 ∷ [] else 1 ∷ long_text w.value)

abbrev pub write_bytes : ℕ → WritePart → List ℕ
write_bytes format w = short_text w.key ++ written_bytes format w

abbrev pub canonical : TransactionValue → List ℕ
canonical t =
    t.format ∷ to_be_bytes w64 t.time ++ t.client ∷ length t.reads ∷ flat_map read_bytes t.reads
    ++ length t.writes ∷ flat_map (write_bytes t.format) t.writes

abbrev pub id : TransactionValue → List ℕ
id t = id_of (canonical t)

abbrev pub version_of : TransactionValue → Version
version_of t = record { time = t.time; client = t.client; id = id t }

-- whether it wrote or deleted this key
abbrev pub writes_key : TransactionValue → List ℕ → Bool
writes_key t key = list_any (λ w. bytes_eq w.key key) t.writes

-- ---- which values are transactions

-- a read whose key stands above the one before it
pub record FitsRead (before : List ℕ) (r : ReadPart) : Type 0 where
  pub key : IsKey r.key
  pub above : key_below before r.key ≡ true
  pub version : IsVersion r.version

-- a write whose key stands above the one before it; a deletion has no value, and stands in format 2
pub record FitsWrite (format : ℕ) (before : List ℕ) (w : WritePart) : Type 0 where
  pub key : IsKey w.key
  pub above : key_below before w.key ≡ true
  pub value : IsValue w.value
  pub gives : format ≡ 1 → w.deletes ≡ false
  pub deletes : w.deletes ≡ true → w.value ≡ []

abbrev pub key_of_read : ReadPart → List ℕ
key_of_read r = r.key

abbrev pub key_of_write : WritePart → List ℕ
key_of_write w = w.key

-- what has canonical bytes
pub record IsTransaction (t : TransactionValue) : Type 0 where
  pub known : 1 ≤ t.format
  pub format : t.format ≤ 2
  pub time : IsU64 t.time
  pub someone : 1 ≤ t.client
  pub client : t.client ≤ most_clients
  pub few_reads : length t.reads ≤ most_keys
  pub reads : AreItems FitsRead key_of_read [] t.reads
  pub few_writes : length t.writes ≤ most_keys
  pub writes : AreItems (FitsWrite t.format) key_of_write [] t.writes

-- these bytes begin with this transaction
pub record Begins (bytes : List ℕ) (t : TransactionValue) : Type 0 where
  pub is : IsTransaction t
  pub rest : List ℕ
  pub spelled : bytes ≡ canonical t ++ rest
