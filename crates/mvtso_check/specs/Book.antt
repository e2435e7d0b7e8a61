-- Which transactions of a replica's book stand, and what a dependency has come to.
use Rattle.std.specs.Prelude.{◌≡◌, ℕ, Bool, true, false, not, ◌||◌, ◌&&◌, ◌+◌, List}
use Rattle.std.specs.Prelude.{[], ◌∷◌, Option, Some, slice_get, is_none, if◌then◌else◌}
use Rattle.std.specs.Option.{option_map_or}
use Rattle.basil_types.specs.declared.party.Decision.TheVariants.{Commit, Abort}
use Rattle.basil_types.specs.declared.transaction.parts.ReadPart.{ReadPart}
use Rattle.basil_types.specs.Transaction.{version_of, writes_key}
use Rattle.basil_types.specs.Version.{same_version}
use Rattle.txn_table.specs.Entries.{VoteValue, Unvoted, Waiting, Voted, EntryValue, decision_of}
use Rattle.txn_table.specs.Released.{is_committed, is_aborted, place_read}
use Rattle.txn_table.specs.Tables.{entry_with}
use Rattle.mv_store.specs.Held.{Held}

-- it waits, or it has voted commit
abbrev pub waits_or_commits : VoteValue → Bool
waits_or_commits Unvoted = false
waits_or_commits (Waiting askers) = true
waits_or_commits (Voted Commit signature proof) = true
waits_or_commits (Voted Abort signature proof) = false

abbrev pub has_committed : EntryValue → Bool
has_committed e = is_committed (decision_of e)

abbrev pub is_prepared : EntryValue → Bool
is_prepared e = waits_or_commits e.vote && is_none (decision_of e)

-- prepared or committed
abbrev pub stands : EntryValue → Bool
stands e = is_prepared e || has_committed e

-- the prepared and the committed transactions of a book, each with its place
abbrev pub held_at : ℕ → EntryValue → Held
held_at place e = record { place = place; committed = has_committed e; transaction = e.transaction }

abbrev pub held_from : ℕ → List EntryValue → List Held
held_from place [] = []
held_from place (e ∷ entries) =
    if stands e then held_at place e ∷ held_from (place + 1) entries else held_from (place + 1) entries

abbrev pub held_in : List EntryValue → List Held
held_in entries = held_from 0 entries

-- ---- dependencies

-- the entry of the transaction whose version was read, if it is known
abbrev pub entry_read : List EntryValue → ReadPart → Option EntryValue
entry_read book r = entry_with book r.version.id

-- it is aborted, or doesn't write the key at the version that was read
abbrev pub is_broken_by : ReadPart → EntryValue → Bool
is_broken_by r e =
    is_aborted (decision_of e) || not (writes_key e.transaction r.key)
    || not (same_version (version_of e.transaction) r.version)

-- or it isn't known
abbrev pub is_broken : List EntryValue → ReadPart → Bool
is_broken book r = option_map_or (is_broken_by r) (entry_read book r) true

-- it has no outcome
abbrev pub is_open : List EntryValue → ReadPart → Bool
is_open book r = option_map_or (λ e. is_none (decision_of e)) (entry_read book r) true

-- a known transaction is committed here, and wrote the key at the version that was read
pub record IsSettled (entries : List EntryValue) (r : ReadPart) : Type 0 where
  pub place : ℕ
  pub entry : EntryValue
  pub found : place_read entries r ≡ Some place
  pub at : slice_get entries place ≡ Some entry
  pub committed : decision_of entry ≡ Some Commit
  pub written : writes_key entry.transaction r.key ≡ true
  pub version : version_of entry.transaction ≡ r.version
