-- A party in three bytes.
use Rattle.std.specs.Prelude.{ℕ, List, [], ◌∷◌}
use Rattle.basil_types.specs.declared.party.Party.{Party}
use Rattle.basil_types.specs.declared.party.Party.TheVariants.{Replica, Client}

-- 0, the shard and the index of a replica, or 1, 0 and the number of a client
abbrev pub party_bytes : Party → List ℕ
party_bytes (Replica shard index) = 0 ∷ shard ∷ index ∷ []
party_bytes (Client number) = 1 ∷ 0 ∷ number ∷ []
