-- A table as callers see it.
use Rattle.std.specs.Prelude.{◌≡◌, ℕ, ◌<◌, List, Bool, false, Option, option_map}
use Rattle.std.specs.Prelude.{position, map, length, slice_get, slice_set, All}
use Rattle.std.specs.List.{IsDistinct}
use Rattle.std.specs.Option.{option_map_or, option_and_then, ForSome}
use Rattle.std.specs.Str.{bytes_eq}
use Rattle.basil_types.specs.declared.party.Decision.{Decision}
use Rattle.basil_types.specs.Transaction as transactions
use Rattle.txn_table.specs.Entries.{EntryValue, is_voted, decision_of, proof_of}

-- the entries in order of arrival, and the id of the transaction for which there is room, until a wait uses it
pub record TableValue : Type 0 where
  pub entries : List EntryValue
  pub room : Option (List ℕ)

abbrev pub id_of : EntryValue → List ℕ
id_of e = transactions.id e.transaction

abbrev pub ids_of : List EntryValue → List (List ℕ)
ids_of entries = map id_of entries

-- the place of the transaction with this id, if it is held
abbrev pub place_of : List EntryValue → List ℕ → Option ℕ
place_of entries id = position (bytes_eq id) (ids_of entries)

-- its entry
abbrev pub entry_with : List EntryValue → List ℕ → Option EntryValue
entry_with entries id = option_and_then (slice_get entries) (place_of entries id)

abbrev pub is_voted_at : List EntryValue → ℕ → Bool
is_voted_at entries place = option_map_or (λ e. is_voted e.vote) (slice_get entries place) false

abbrev pub decision_at : List EntryValue → ℕ → Option Decision
decision_at entries place = option_and_then decision_of (slice_get entries place)

-- room was made for the transaction at this place, and not used since
abbrev pub HasRoomAt : TableValue → ℕ → Type 0
HasRoomAt table place = table.room ≡ option_map id_of (slice_get table.entries place)

-- the entries with what happened to the one at this place
abbrev pub changed : (EntryValue → EntryValue) → ℕ → List EntryValue → List EntryValue
changed f place entries = option_map_or (λ e. slice_set entries place (f e)) (slice_get entries place) entries

-- the place that a vote names as a proof is below this number
abbrev pub IsProofBelow : ℕ → EntryValue → Type 0
IsProofBelow n e = ForSome (proof_of e.vote) (λ place. place < n)

-- the ids differ, and each place that a vote names as a proof is held
pub record AreHeld (entries : List EntryValue) : Type 0 where
  pub distinct : IsDistinct bytes_eq (ids_of entries)
  pub proofs : All (IsProofBelow (length entries)) entries
