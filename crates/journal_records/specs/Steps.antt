-- What stands between the steps of an append.
use Rattle.std.specs.Prelude.{◌≡◌, ℕ, ◌-◌, ◌++◌, List, [], ◌∷◌, length, slice_range}
use Rattle.std.specs.Int.{byte_len, w32}
use Rattle.std.specs.List.{All, flat_map}
use Rattle.journal_disk.specs.Disk.{DiskState, Change}
use Rattle.journal_records.specs.declared.gates.TheConstants.{CLOSED}
use Rattle.journal_records.specs.Journal.{IsEntry, record_of, opened, LosesNone, IsKept}

-- a record with the closed gate behind it
abbrev pub closed_record : List ℕ → List ℕ
closed_record entry = record_of entry ++ CLOSED ∷ []

-- behind the records and a gate stands one more, with its next gate closed
pub record Awaits (entries : List (List ℕ)) (entry bytes : List ℕ) : Type 0 where
  pub each : All IsEntry entries
  pub fits : IsEntry entry
  pub gate : ℕ
  pub behind : List ℕ
  pub are : bytes ≡ flat_map opened entries ++ gate ∷ (closed_record entry ++ behind)

-- a disk keeps one more record behind the last gate, and no stop since then lost any
pub record IsPrepared (entries : List (List ℕ)) (entry : List ℕ) (then_past : List Change) (s : DiskState) :
    Type 0 where
  pub awaits : Awaits entries entry s.contents
  pub kept : IsKept s
  pub loses_none : LosesNone entries entry then_past s

-- the bytes between the length and the gate
abbrev pub entry_in : List ℕ → List ℕ
entry_in bytes = slice_range bytes (byte_len w32) (length bytes - 1)

-- the bytes are a record with the closed gate behind it
pub record IsSpelled (bytes : List ℕ) : Type 0 where
  pub fits : IsEntry (entry_in bytes)
  pub are : bytes ≡ closed_record (entry_in bytes)
