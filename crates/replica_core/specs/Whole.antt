-- What is kept of votes and outcomes is whole.
use Rattle.std.specs.Prelude.{ℕ, List, Bool, ◌&&◌, nat_le, length}
use Rattle.basil_types.specs.Limits.{signature_limit}
use Rattle.frame_views.specs.Stored.{spells_certificate}
use Rattle.txn_table.specs.Entries.{EntryValue}
use Rattle.txn_table.specs.Stored.{are_stored}

abbrev pub is_signature : List ℕ → Bool
is_signature bytes = nat_le 1 (length bytes) && nat_le (length bytes) signature_limit

-- the signatures of votes may stand in frames, and the certificates of outcomes may be viewed
abbrev pub are_whole : List EntryValue → Bool
are_whole entries = are_stored is_signature spells_certificate entries
