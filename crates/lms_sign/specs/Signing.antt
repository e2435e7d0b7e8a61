-- The key of a tree and the signatures that it gives (RFC 8554, section 5.4).
use Rattle.std.specs.Prelude.{ℕ, ◌+◌, ◌-◌, ◌/◌, ◌%◌, ◌^◌, ◌==◌, List, ◌++◌, if◌then◌else◌}
use Rattle.std.specs.Int.{w32, to_be_bytes}
use Rattle.lms_ots.specs.Chains.{leaf_of, joined}
use Rattle.lms_ots.specs.Signatures.{signature_of as one_time_signature_of}
use Rattle.lms_sign.specs.Sets.{one_time_of, height_of, leaves_of, type_of}
use Rattle.lms_sign.specs.Randomizer.{randomizer_of}
use Rattle.lms_sign.specs.Tree.{Tree, node}

-- a key: its tree, which never changes, and the next leaf, below which all are spent
pub record Key : Type 0 where
  pub tree : Tree
  pub next : ℕ

-- the key of a tree from leaf 0 on
abbrev pub first_key : Tree → Key
first_key tree = record { tree = tree; next = 0 }

-- the other child of the same node
abbrev pub sibling : ℕ → ℕ
sibling r = if r % 2 == 0 then r + 1 else r - 1

-- path[i] of the leaf with number r: the sibling of the node above it that stands i levels up
abbrev pub path_of : Tree → ℕ → ℕ → List ℕ
path_of tree r i = node tree i (sibling (r / 2 ^ i))

-- the one-time signature of a message by leaf q
abbrev pub one_time_part : Tree → ℕ → List ℕ → List ℕ
one_time_part tree q message =
    one_time_signature_of (one_time_of tree.set) (leaf_of tree.ident q) tree.seed (randomizer_of tree.seed q) message

-- u32 q ‖ one-time signature ‖ u32 type ‖ path[0] ‖ .. ‖ path[h - 1]
abbrev pub signature_of : Tree → ℕ → List ℕ → List ℕ
signature_of tree q message =
    to_be_bytes w32 q ++ one_time_part tree q message ++ to_be_bytes w32 (type_of tree.set)
    ++ joined (path_of tree (leaves_of tree.set + q)) (height_of tree.set)
