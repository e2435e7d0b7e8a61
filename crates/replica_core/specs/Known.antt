-- The known transactions and the logged ones, by id.
use Rattle.std.specs.Prelude.{ℕ, List, [], ◌∷◌, ◌++◌, Bool, Option, option_map, option_and_then, slice_get, is_some}
use Rattle.std.specs.Prelude.{find, if◌then◌else◌}
use Rattle.std.specs.Option.{option_map_or}
use Rattle.std.specs.Ordering.{nat_cmp}
use Rattle.std.specs.Str.{bytes_eq}
use Rattle.basil_types.specs.declared.party.Party.{Party}
use Rattle.basil_types.specs.declared.party.Party.TheVariants.{Replica, Client}
use Rattle.basil_types.specs.Transaction.{TransactionValue, id}
use Rattle.frame_views.specs.Stored.{certificate_in}
use Rattle.frame_views.specs.Values.{CommittedValue, WritebackValue}
use Rattle.node_steps.specs.Lists.{put}
use Rattle.txn_table.specs.Entries.{EntryValue, OutcomeValue, arrived}
use Rattle.txn_table.specs.Tables.{place_of, entry_with, changed}
use Rattle.replica_core.specs.Replicas.{LoggedEntry}

-- ---- transactions

-- the transactions with one that becomes known, unless its id is known already
abbrev pub with_known : List EntryValue → TransactionValue → List EntryValue
with_known entries t = if is_some (place_of entries (id t)) then entries else entries ++ arrived t ∷ []

-- a change of the entry with this id
abbrev pub changed_at : (EntryValue → EntryValue) → List ℕ → List EntryValue → List EntryValue
changed_at f named entries = option_map_or (λ place. changed f place entries) (place_of entries named) entries

-- the known transaction of the same id, whatever other bytes of this id came
abbrev pub known_of : List EntryValue → TransactionValue → TransactionValue
known_of entries t = option_map_or (λ (e : EntryValue). e.transaction) (entry_with entries (id t)) t

abbrev pub outcome_with : List EntryValue → List ℕ → Option OutcomeValue
outcome_with entries named = option_and_then (λ (e : EntryValue). e.outcome) (entry_with entries named)

-- a transaction with an outcome, and the certificate that was kept
abbrev pub proven : TransactionValue → OutcomeValue → CommittedValue
proven t outcome = record { transaction = t; certificate = certificate_in outcome.certificate }

abbrev pub proven_entry : EntryValue → Option CommittedValue
proven_entry e = option_map (proven e.transaction) e.outcome

-- the transaction at a place, with the certificate of its outcome
abbrev pub proven_at : List EntryValue → ℕ → Option CommittedValue
proven_at entries place = option_and_then proven_entry (slice_get entries place)

abbrev pub as_writeback : CommittedValue → WritebackValue
as_writeback part = record { transaction = part.transaction; certificate = part.certificate }

-- ---- what is logged

abbrev pub is_of : List ℕ → LoggedEntry → Bool
is_of named l = bytes_eq l.id named

abbrev pub logged_with : List LoggedEntry → List ℕ → Option LoggedEntry
logged_with logged named = find (is_of named) logged

-- in the place of what was logged of the same transaction
abbrev pub put_logged : LoggedEntry → List LoggedEntry → List LoggedEntry
put_logged l [] = l ∷ []
put_logged l (x ∷ xs) = if is_of l.id x then l ∷ xs else x ∷ put_logged l xs

-- a client waits for changes; a replica doesn't
abbrev pub asked_by : Party → List ℕ → List ℕ
asked_by (Replica shard index) askers = askers
asked_by (Client number) askers = put nat_cmp number askers
