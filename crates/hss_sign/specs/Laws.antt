-- What holds of the signatures of each key.
use Rattle.std.specs.Prelude.{◌≡◌, ◌≢◌, ℕ, ◌+◌, ◌<◌, nat_lt, List, [], ◌∷◌}
use Rattle.std.specs.Prelude.{length, slice_index_or, if◌then◌else◌, take, drop}
use Rattle.lms_sign.specs.Sets.{size_of}
use Rattle.lms_sign.specs.Verifying.{number_at}
use Rattle.hss_sign.specs.declared.material.Material.{Material}
use Rattle.hss_sign.specs.Keys.{HssState, numbers_of, after_signing, hss_signature_of}

-- the signatures that a key gives of some messages in turn, until no number is left
abbrev pub signatures_of : HssState → List (List ℕ) → List (List ℕ)
signatures_of key [] = []
signatures_of key (message ∷ later) =
    if nat_lt key.next (numbers_of key.material)
    then hss_signature_of key.material key.next message ∷ signatures_of (after_signing key) later
    else []

-- the signature with an index among them
abbrev pub signature_at : HssState → List (List ℕ) → ℕ → List ℕ
signature_at key messages i = slice_index_or (signatures_of key messages) i []

-- what a signature names: its top leaf, the bottom key that this leaf signs, and its bottom leaf
abbrev pub top_leaf_in : List ℕ → ℕ
top_leaf_in signature = number_at signature 4

abbrev pub bottom_key_in : Material → List ℕ → List ℕ
bottom_key_in m signature = take 56 (drop (4 + size_of m.top) signature)

abbrev pub bottom_leaf_in : Material → List ℕ → ℕ
bottom_leaf_in m signature = number_at signature (60 + size_of m.top)

-- no bottom leaf under a top leaf signs two messages
abbrev pub SignsOncePerNumber : Type 0
SignsOncePerNumber =
    (key : HssState) (messages : List (List ℕ)) (i j : ℕ) → i < j → j < length (signatures_of key messages)
    → top_leaf_in (signature_at key messages i) ≡ top_leaf_in (signature_at key messages j)
    → bottom_leaf_in key.material (signature_at key messages i)
    ≢ bottom_leaf_in key.material (signature_at key messages j)

-- each top leaf signs one bottom key
abbrev pub OneKeyPerTopLeaf : Type 0
OneKeyPerTopLeaf =
    (key : HssState) (messages : List (List ℕ)) (i j : ℕ) →
    i < length (signatures_of key messages) → j < length (signatures_of key messages)
    → top_leaf_in (signature_at key messages i) ≡ top_leaf_in (signature_at key messages j)
    → bottom_key_in key.material (signature_at key messages i)
    ≡ bottom_key_in key.material (signature_at key messages j)
