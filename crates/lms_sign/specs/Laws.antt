-- What holds of each tree and of each key.
use Rattle.std.specs.Prelude.{◌≡◌, ◌≢◌, ℕ, ◌+◌, ◌<◌, nat_lt, List, [], ◌∷◌}
use Rattle.std.specs.Prelude.{length, slice_index_or, None, ◌↔◌, if◌then◌else◌}
use Rattle.lms_sign.specs.Sets.{height_of, leaves_of, size_of}
use Rattle.lms_sign.specs.Tree.{Tree, ident_of_seed, node, root, public_of}
use Rattle.lms_sign.specs.Signing.{Key, path_of, signature_of}
use Rattle.lms_sign.specs.Verifying.{Valid, climbed, first_refusal, leaf_in}

-- the path of each leaf leads to the root
abbrev pub PathLeadsToRoot : Type 0
PathLeadsToRoot =
    (tree : Tree) (q : ℕ) → q < leaves_of tree.set
    → climbed tree.ident (path_of tree (leaves_of tree.set + q)) (leaves_of tree.set + q)
    (node tree 0 (leaves_of tree.set + q)) (height_of tree.set)
    ≡ root tree

-- the signatures that a key gives of some messages in turn, until no leaf is left
abbrev pub signatures_of : Key → List (List ℕ) → List (List ℕ)
signatures_of key [] = []
signatures_of key (message ∷ later) =
    if nat_lt key.next (leaves_of key.tree.set)
    then signature_of key.tree key.next message ∷ signatures_of (record key { next = key.next + 1 }) later
    else []

-- no two of them name the same leaf
abbrev pub SignsOncePerLeaf : Type 0
SignsOncePerLeaf =
    (key : Key) (messages : List (List ℕ)) (i j : ℕ) → i < j → j < length (signatures_of key messages)
    → leaf_in (slice_index_or (signatures_of key messages) i [])
    ≢ leaf_in (slice_index_or (signatures_of key messages) j [])

-- no test refuses exactly what is valid
abbrev pub UnrefusedIsValid : Type 0
UnrefusedIsValid =
    (public message signature : List ℕ)
    → (first_refusal public message signature ≡ None) ↔ Valid public message signature

-- what a tree signs is valid under its public key
abbrev pub MadeIsValid : Type 0
MadeIsValid =
    (tree : Tree) (q : ℕ) (message : List ℕ) → length tree.ident ≡ 16 → q < leaves_of tree.set
    → Valid (public_of tree) message (signature_of tree q message)

-- the bytes of signatures, of public keys and of the identifiers of seeds
pub record HasItsSize : Type 0 where
  pub signature : (tree : Tree) (q : ℕ) (message : List ℕ) → length (signature_of tree q message) ≡ size_of tree.set
  pub public : (tree : Tree) → length tree.ident ≡ 16 → length (public_of tree) ≡ 56
  pub ident : (seed : List ℕ) → length (ident_of_seed seed) ≡ 16
