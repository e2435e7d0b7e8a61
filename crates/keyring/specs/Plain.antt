-- The plain keys of a replay.
use Rattle.std.specs.Prelude.{ℕ, Bool, List, [], ◌∷◌, ◌++◌}
use Rattle.std.specs.Str.{bytes_eq}
use Rattle.basil_types.specs.Id.{id_of}
use Rattle.basil_types.specs.declared.party.Party.{Party}
use Rattle.basil_types.specs.declared.party.Party.TheVariants.{Replica, Client}
use Rattle.keyring.specs.Signing.{Signing}

abbrev pub seed_of : Party → List ℕ
seed_of (Replica shard index) = id_of (0x52 ∷ shard ∷ index ∷ [])
seed_of (Client number) = id_of (0x43 ∷ 0 ∷ number ∷ [])

-- a signature is the digest of the seed and the words
abbrev pub plain_signature : Party → List ℕ → List ℕ
plain_signature party words = id_of (seed_of party ++ words)

abbrev pub plain_accepts : Party → List ℕ → List ℕ → Bool
plain_accepts party words signature = bytes_eq signature (plain_signature party words)

abbrev pub plain_signing : Party → Signing
plain_signing party =
    record { party = party; size = 32; gives = λ _ words. plain_signature party words; holds = plain_accepts }
