-- Keys of two levels, and the signatures that they give (RFC 8554, section 6).
use Rattle.std.specs.Prelude.{ℕ, ◌+◌, ◌-◌, ◌*◌, ◌/◌, ◌%◌, List, [], ◌∷◌, ◌++◌, ◌==◌, if◌then◌else◌}
use Rattle.std.specs.Int.{w32, to_be_bytes}
use Rattle.sha2.specs.Sha256.{sha256}
use Rattle.lms_sign.specs.declared.sets.LmsSet.{LmsSet}
use Rattle.lms_sign.specs.Sets.{leaves_of, size_of}
use Rattle.lms_sign.specs.Tree.{Tree, tree_of, ident_of_seed, public_of}
use Rattle.lms_sign.specs.Signing.{signature_of}
use Rattle.hss_sign.specs.declared.material.Material.{Material}

-- a key: its material, which never changes, the number of its next signature, below which all are spent, and the top
-- leaf whose bottom key it holds
pub record HssState : Type 0 where
  pub material : Material
  pub next : ℕ
  pub held : ℕ

abbrev pub state_of : Material → ℕ → ℕ → HssState
state_of m next held = record { material = m; next = next; held = held }

abbrev pub material_of : List ℕ → List ℕ → LmsSet → LmsSet → Material
material_of seed ident top bottom = record { seed = seed; ident = ident; top = top; bottom = bottom }

-- the numbers of a key's signatures, one for each bottom leaf under each top leaf
abbrev pub numbers_of : Material → ℕ
numbers_of m = leaves_of m.top * leaves_of m.bottom

-- the two leaves of a number
abbrev pub top_leaf_of : Material → ℕ → ℕ
top_leaf_of m number = number / leaves_of m.bottom

abbrev pub bottom_leaf_of : Material → ℕ → ℕ
bottom_leaf_of m number = number % leaves_of m.bottom

-- the top leaf whose bottom key a key holds that is made before a number: the number's, and behind all numbers the last
abbrev pub first_held : Material → ℕ → ℕ
first_held m number = if number == numbers_of m then leaves_of m.top - 1 else top_leaf_of m number

-- a key that is made before a number
abbrev pub made_before : Material → ℕ → HssState
made_before m number = state_of m number (first_held m number)

-- a key that has signed once more: it holds the bottom key of that signature
abbrev pub after_signing : HssState → HssState
after_signing key = state_of key.material (key.next + 1) (top_leaf_of key.material key.next)

-- the tree of the top level
abbrev pub top_tree : Material → Tree
top_tree m = tree_of m.top m.ident m.seed

-- the tree of the bottom level under a top leaf: its SEED is SHA-256(48 ‖ SEED ‖ I ‖ u32 leaf), with the byte 48
-- hexadecimal, and its I is made of that seed
unfoldable pub bottom_seed : Material → ℕ → List ℕ
bottom_seed m leaf = sha256 (0x48 ∷ [] ++ m.seed ++ m.ident ++ to_be_bytes w32 leaf)

abbrev pub bottom_tree : Material → ℕ → Tree
bottom_tree m leaf = tree_of m.bottom (ident_of_seed (bottom_seed m leaf)) (bottom_seed m leaf)

-- the public key of the bottom level under a top leaf, and its signature by that leaf
unfoldable pub bottom_key : Material → ℕ → List ℕ
bottom_key m leaf = public_of (bottom_tree m leaf)

unfoldable pub top_signature : Material → ℕ → List ℕ
top_signature m leaf = signature_of (top_tree m) leaf (bottom_key m leaf)

-- what stands before each bottom signature under a top leaf: u32 1 ‖ top signature ‖ bottom key
unfoldable pub heading_of : Material → ℕ → List ℕ
heading_of m leaf = to_be_bytes w32 1 ++ top_signature m leaf ++ bottom_key m leaf

-- the signature with a number
unfoldable pub hss_signature_of : Material → ℕ → List ℕ → List ℕ
hss_signature_of m number message =
    heading_of m (top_leaf_of m number)
    ++ signature_of (bottom_tree m (top_leaf_of m number)) (bottom_leaf_of m number) message

-- the public key: u32 2 ‖ the top level's public key
unfoldable pub hss_public_of : Material → List ℕ
hss_public_of m = to_be_bytes w32 2 ++ public_of (top_tree m)

-- the bytes of a signature
abbrev pub hss_size_of : Material → ℕ
hss_size_of m = 60 + size_of m.top + size_of m.bottom
