-- What holds of the keyrings and the pens of a replay.
use Rattle.std.specs.Prelude.{◌≡◌, ℕ, ◌<◌, true, List, [], ◌∷◌, Some, ◌↔◌}
use Rattle.basil_types.specs.Setting.{Setting}
use Rattle.basil_types.specs.declared.party.Party.{Party}
use Rattle.keyring.specs.Signing.{Signing}
use Rattle.lms_sign.specs.declared.sets.LmsSet.{LmsSet}
use Rattle.lms_sign.specs.Sets.{leaves_of}
use Rattle.lms_sign.specs.Tree.{Tree, public_of}
use Rattle.lms_sign.specs.Verifying.{Valid}
use Rattle.keyring_lms.specs.Keys.{public_in, lms_accepts}
use Rattle.keyring_lms.specs.Pens.{tree_holds, lms_signing}
use Rattle.keyring_lms.specs.Replay.{tree_in_replay, is_party_of, replay_accepts}

-- a party's pen in a replay
abbrev pub replay_signing : LmsSet → Party → Signing
replay_signing set party = lms_signing party (tree_in_replay set party) 0

-- a signature is accepted exactly where the party has an entry, and it is valid under the public key of the first
abbrev pub AcceptedIsValid : Type 0
AcceptedIsValid =
    (list : List (Party × List ℕ)) (party : Party) (words signature : List ℕ)
    → (lms_accepts list party words signature ≡ true) ↔
    ((public : List ℕ) × (public_in list party ≡ Some public) × Valid public words signature)

-- a pen's relation and a keyring's are one for the pen's party, where the party's first entry is the pen's public key
abbrev pub PensAgreeWithKeys : Type 0
PensAgreeWithKeys =
    (list : List (Party × List ℕ)) (party : Party) (tree : Tree) (words signature : List ℕ)
    → public_in list party ≡ Some (public_of tree)
    → tree_holds party tree party words signature ≡ lms_accepts list party words signature

-- the keyring of one entry has the whole relation of the pen of that party with that public key
abbrev pub OneKeyAgreesWithItsPen : Type 0
OneKeyAgreesWithItsPen =
    (party : Party) (tree : Tree) → tree_holds party tree ≡ lms_accepts ((party, public_of tree) ∷ [])

-- the replay pen of a party of the cluster and the replay keyring have one relation for that party
abbrev pub ReplayPensAgreeWithKeys : Type 0
ReplayPensAgreeWithKeys =
    (cluster : Setting) (set : LmsSet) (party : Party) (words signature : List ℕ)
    → is_party_of cluster party ≡ true
    → (replay_signing set party).holds party words signature ≡ replay_accepts cluster set party words signature

-- what the replay pen of a party of the cluster signs with any leaf is accepted by the replay keyring
abbrev pub ReplayPensAreAccepted : Type 0
ReplayPensAreAccepted =
    (cluster : Setting) (set : LmsSet) (party : Party) (place : ℕ) (words : List ℕ)
    → is_party_of cluster party ≡ true → place < leaves_of set
    → replay_accepts cluster set party words ((replay_signing set party).gives place words) ≡ true
