-- The tree of one-time keys and its public key (RFC 8554, sections 5.2 and 5.3).
use Rattle.std.specs.Prelude.{ℕ, zero, suc, ◌+◌, ◌-◌, ◌*◌, List, [], ◌∷◌, ◌++◌, take}
use Rattle.std.specs.Int.{w32, to_be_bytes}
use Rattle.sha2.specs.Sha256.{sha256}
use Rattle.lms_ots.specs.Chains.{leaf_of, public_of as one_time_public_of}
use Rattle.lms_sign.specs.declared.sets.LmsSet.{LmsSet}
use Rattle.lms_sign.specs.Sets.{one_time_of, one_time_type_of, height_of, leaves_of, type_of}

-- a tree: its set, its identifier I and the SEED of its one-time keys
pub record Tree : Type 0 where
  pub set : LmsSet
  pub ident : List ℕ
  pub seed : List ℕ

abbrev pub tree_of : LmsSet → List ℕ → List ℕ → Tree
tree_of set ident seed = record { set = set; ident = ident; seed = seed }

-- the I that is made of a seed: the first 16 bytes of SHA-256(49 ‖ seed), with the byte 49 hexadecimal
unfoldable pub ident_of_seed : List ℕ → List ℕ
ident_of_seed seed = take 16 (sha256 (0x49 ∷ [] ++ seed))

-- the leaf with number r over a one-time key
unfoldable pub leaf_node : List ℕ → ℕ → List ℕ → List ℕ
leaf_node ident r key = sha256 (ident ++ to_be_bytes w32 r ++ 0x82 ∷ 0x82 ∷ [] ++ key)

-- the node with number r over two nodes
unfoldable pub inner_node : List ℕ → ℕ → List ℕ → List ℕ → List ℕ
inner_node ident r left right = sha256 (ident ++ to_be_bytes w32 r ++ 0x83 ∷ 0x83 ∷ [] ++ left ++ right)

-- the one-time public key of leaf q
abbrev pub one_time_key : Tree → ℕ → List ℕ
one_time_key tree q = one_time_public_of (one_time_of tree.set) (leaf_of tree.ident q) tree.seed

-- T[r], which stands some levels above the leaves; leaf q has the number 2 ^ h + q
unfoldable pub node : Tree → ℕ → ℕ → List ℕ
node tree zero r = leaf_node tree.ident r (one_time_key tree (r - leaves_of tree.set))
node tree (suc level) r = inner_node tree.ident r (node tree level (2 * r)) (node tree level (2 * r + 1))

-- T[1]
abbrev pub root : Tree → List ℕ
root tree = node tree (height_of tree.set) 1

-- the public key: u32 type ‖ u32 one-time type ‖ I ‖ T[1]
abbrev pub public_with : LmsSet → List ℕ → List ℕ → List ℕ
public_with set ident top = to_be_bytes w32 (type_of set) ++ to_be_bytes w32 (one_time_type_of set) ++ ident ++ top

abbrev pub public_of : Tree → List ℕ
public_of tree = public_with tree.set tree.ident (root tree)
