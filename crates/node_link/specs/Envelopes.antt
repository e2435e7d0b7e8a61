-- The envelope at the front of bytes: a party, three bytes; the length of a frame, four bytes; and the frame. Where
-- there is none, more bytes are wanted, or the rules end the connection and the cause is told.
use Rattle.std.specs.Prelude.{ℕ, List, ◌∷◌, length, take, drop, Option, Some, None, Result, Ok, Err, Bool, ◌==◌, ◌&&◌}
use Rattle.std.specs.Prelude.{nat_le, nat_lt, if◌then◌else◌}
use Rattle.std.specs.Int.{w32, from_be_bytes}
use Rattle.quorum_laws.specs.Numbers.{replicas}
use Rattle.basil_types.specs.declared.outbox.Envelope.{Envelope}
use Rattle.basil_types.specs.declared.party.Party.{Party}
use Rattle.basil_types.specs.declared.party.Party.TheVariants.{Replica, Client}
use Rattle.basil_types.specs.Limits.{frame_limit, most_clients}
use Rattle.basil_types.specs.Setting.{Setting}
use Rattle.basil_types.specs.Steps.{◌>>=◌}
use Rattle.node_link.specs.declared.cause.EndCause.{EndCause}
use Rattle.node_link.specs.declared.cause.EndCause.TheVariants as causes

-- a field and the bytes behind it; without a cause, bytes are missing
abbrev pub Field : Type 0 → Type 0
Field A = Result (A × List ℕ) (Option EndCause)

abbrev pub is_replica : Setting → (kind shard index : ℕ) → Bool
is_replica cluster kind shard index = kind == 0 && nat_lt shard cluster.shards && nat_lt index (replicas cluster.f)

abbrev pub is_client : (kind second number : ℕ) → Bool
is_client kind second number = kind == 1 && second == 0 && nat_le 1 number && nat_le number most_clients

-- who of the cluster is named by three bytes: 0, the shard and the index of a replica, or 1, 0 and the number of a
-- client
abbrev pub party_named : Setting → (kind shard number : ℕ) → Option Party
party_named cluster kind shard number =
    if is_replica cluster kind shard number then Some (Replica shard number) else
    (if is_client kind shard number then Some (Client number) else None)

abbrev pub named : List ℕ → Option Party → Field Party
named rest (Some party) = Ok (party, rest)
named rest None = Err (Some causes.Party)

unfoldable pub party_at : Setting → List ℕ → Field Party
party_at cluster (kind ∷ shard ∷ number ∷ rest) = named rest (party_named cluster kind shard number)
party_at cluster _ = Err None

-- 1 to 1,048,576 bytes
abbrev pub allowed : ℕ → List ℕ → Field ℕ
allowed count rest =
    if count == 0 then Err (Some causes.Empty) else
    (if nat_le count frame_limit then Ok (count, rest) else Err (Some (causes.TooLong count)))

unfoldable pub length_at : List ℕ → Field ℕ
length_at bytes =
    if nat_lt (length bytes) 4 then Err None else allowed (from_be_bytes w32 (take 4 bytes)) (drop 4 bytes)

unfoldable pub frame_at : ℕ → List ℕ → Field (List ℕ)
frame_at count bytes = if nat_lt (length bytes) count then Err None else Ok (take count bytes, drop count bytes)

unfoldable pub envelope_at : Setting → List ℕ → Field Envelope
envelope_at cluster bytes = do
  party ← party_at cluster bytes
  count ← length_at party.1
  frame ← frame_at count.0 count.1
  Ok (record { to = party.0; frame = frame.0 }, frame.1)
