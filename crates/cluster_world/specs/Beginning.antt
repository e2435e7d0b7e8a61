-- Begun transactions, as a world holds them.
use Rattle.std.specs.Prelude.{ℕ, List, [], true, false, Option, None, Some, option_and_then, option_map, slice_get}
use Rattle.basil_types.specs.declared.transaction.parts.WritePart.{WritePart}
use Rattle.basil_types.specs.declared.version.Version.{Version}
use Rattle.basil_types.specs.Transaction.{id, version_of}
use Rattle.basil_types.specs.Version.{genesis}
use Rattle.client_core.specs.Clients.{ClientValue, SlotValue}
use Rattle.client_recover.specs.Taken.{PursuitValue}
use Rattle.cluster_run.specs.States.{BegunValue, FormedValue}
use Rattle.cluster_world.specs.declared.written.Written.{Written}
use Rattle.cluster_world.specs.declared.written.Written.TheVariants.{Value, Deleted}

-- the client of a begun transaction, and the slot in which it holds it
abbrev pub own_slot : List BegunValue → ℕ → Option (ℕ × ℕ)
own_slot begun tx =
    option_and_then (λ (b : BegunValue). option_map (λ slot. (b.client, slot)) b.slot) (slice_get begun tx)

-- what the client of a begun transaction formed
abbrev pub formed_in : List BegunValue → ℕ → Option FormedValue
formed_in begun tx = option_and_then (λ (b : BegunValue). b.formed) (slice_get begun tx)

-- its id
abbrev pub id_in : List BegunValue → ℕ → Option (List ℕ)
id_in begun tx = option_map (λ (f : FormedValue). id f.transaction) (formed_in begun tx)

-- its version
abbrev pub version_in : List BegunValue → ℕ → Option Version
version_in begun tx = option_map (λ (f : FormedValue). version_of f.transaction) (formed_in begun tx)

-- the version that a claim names: that of a formed transaction, or genesis
abbrev pub version_claimed : List BegunValue → Option ℕ → Option Version
version_claimed begun None = Some genesis
version_claimed begun (Some writer) = version_in begun writer

abbrev pub written_value : Written → WritePart
written_value (Value key value) = record { key = key.now; value = value.now; deletes = false }
written_value (Deleted key) = record { key = key.now; value = []; deletes = true }

-- what a client formed in a slot
abbrev pub formed_by : ClientValue → (slot : ℕ) → Option FormedValue
formed_by c slot =
    option_map (λ (p : PursuitValue). record { transaction = p.transaction; signature = p.signature })
    (option_and_then (λ (x : SlotValue). x.pursuit) (slice_get c.slots slot))
