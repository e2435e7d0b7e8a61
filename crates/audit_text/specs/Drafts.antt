-- A transaction whose lines are read.
use Rattle.std.specs.Prelude.{ℕ, List, [], ◌∷◌, Bool, true, false, ◌&&◌, ◌||◌, ◌==◌}
use Rattle.std.specs.Prelude.{length, Option, Some, None, is_none, is_some, if◌then◌else◌}
use Rattle.std.specs.BTreeMap.{insert_entry, is_at}
use Rattle.std.specs.Cmp.Lexicographic.{slice_cmp}
use Rattle.std.specs.List.{list_all}
use Rattle.std.specs.Map.{lookup}
use Rattle.std.specs.Ordering.{nat_cmp}
use Rattle.basil_types.specs.Built.{built, build_fault}
use Rattle.basil_types.specs.Transaction.{TransactionValue, version_of}
use Rattle.basil_types.specs.Version.{below}
use Rattle.basil_types.specs.declared.transaction.parts.ReadPart.{ReadPart}
use Rattle.basil_types.specs.declared.transaction.parts.WritePart.{WritePart}
use Rattle.basil_types.specs.declared.version.Version.{Version}

-- finite maps, as their entries in the order of their keys: the version that is read of a key, and the value that is
-- written to it, or none where it is deleted
abbrev pub Reads : Type 0
Reads = List (List ℕ × Version)

abbrev pub Writes : Type 0
Writes = List (List ℕ × Option (List ℕ))

-- its `tx` line, by its number; what that line says; its reads and writes, and whether two of its reads are of one key
pub record DraftValue : Type 0 where
  pub line : ℕ
  pub name : List ℕ
  pub time : ℕ
  pub client : ℕ
  pub reads : Reads
  pub twice : Bool
  pub writes : Writes

abbrev pub begun_at : (line : ℕ) → (name : List ℕ) → (time client : ℕ) → DraftValue
begun_at line name time client =
    record { line = line; name = name; time = time; client = client; reads = []; twice = false; writes = [] }

abbrev pub has_read : List ℕ → Reads → Bool
has_read key reads = is_some (lookup (is_at (slice_cmp nat_cmp key)) reads)

abbrev pub add_read : (key : List ℕ) → Version → DraftValue → DraftValue
add_read key v o =
    record o { reads = insert_entry (slice_cmp nat_cmp) o.reads key v; twice = o.twice || has_read key o.reads }

-- a second write of a key replaces the first
abbrev pub add_write : (key : List ℕ) → Option (List ℕ) → DraftValue → DraftValue
add_write key value o = record o { writes = insert_entry (slice_cmp nat_cmp) o.writes key value }

-- ---- at its end

-- no read is a dependency
abbrev pub read_parts : Reads → List ReadPart
read_parts [] = []
read_parts (e ∷ es) = record { key = e.0; version = e.1; dependency = false } ∷ read_parts es

abbrev pub write_part : (key : List ℕ) → Option (List ℕ) → WritePart
write_part key (Some value) = record { key = key; value = value; deletes = false }
write_part key None = record { key = key; value = []; deletes = true }

abbrev pub write_parts : Writes → List WritePart
write_parts [] = []
write_parts (e ∷ es) = write_part e.0 e.1 ∷ write_parts es

-- each read is of a version below its own
abbrev pub reads_below : TransactionValue → Bool
reads_below t = list_all (λ r. below r.version (version_of t)) t.reads

abbrev pub unless_above : TransactionValue → Option TransactionValue
unless_above t = if reads_below t then Some t else None

-- the transaction of these parts, unless they make none, as where there is a 33rd read or write
abbrev pub made : (time client : ℕ) → List ReadPart → List WritePart → Option TransactionValue
made time client reads writes =
    if is_none (build_fault client reads writes) then unless_above (built time client reads writes) else None

abbrev pub is_empty : DraftValue → Bool
is_empty o = length o.reads == 0 && length o.writes == 0

-- what it is at its end: nothing where it is empty, has two reads of one key or a 33rd read or write, or reads a
-- version that isn't below its own
abbrev pub ended : DraftValue → Option TransactionValue
ended o = if o.twice || is_empty o then None else made o.time o.client (read_parts o.reads) (write_parts o.writes)
