-- What a list of parties and their public keys accepts.
use Rattle.std.specs.Prelude.{ℕ, Bool, false, ◌==◌, ◌&&◌, List, Option, Some, None, option_map}
use Rattle.std.specs.List.{find}
use Rattle.basil_types.specs.declared.party.Party.{Party}
use Rattle.basil_types.specs.declared.party.Party.TheVariants.{Replica, Client}
use Rattle.lms_sign.specs.Verifying.{is_valid}

-- whether two parties are the same
abbrev pub is_same : Party → Party → Bool
is_same (Replica shard index) (Replica other_shard other_index) = shard == other_shard && index == other_index
is_same (Replica shard index) (Client number) = false
is_same (Client number) (Replica shard index) = false
is_same (Client number) (Client other) = number == other

-- the public key of the first entry of a party, if it has one
abbrev pub public_in : List (Party × List ℕ) → Party → Option (List ℕ)
public_in list party =
    option_map (λ (entry : Party × List ℕ). entry.1) (find (λ (entry : Party × List ℕ). is_same entry.0 party) list)

-- whether a signature of these words is valid under a public key; under none it isn't
abbrev pub is_valid_under : Option (List ℕ) → List ℕ → List ℕ → Bool
is_valid_under None words signature = false
is_valid_under (Some public) words signature = is_valid public words signature

-- what is valid under the public key of the first entry of the party
abbrev pub lms_accepts : List (Party × List ℕ) → Party → List ℕ → List ℕ → Bool
lms_accepts list party words signature = is_valid_under (public_in list party) words signature
