-- Which nodes of a tree stand in a list by their numbers.
use Rattle.std.specs.Prelude.{◌≡◌, ℕ, ◌+◌, ◌-◌, ◌*◌, ◌^◌, ◌≤◌, ◌<◌, List, [], slice_index_or}
use Rattle.lms_sign.specs.Sets.{height_of, leaves_of}
use Rattle.lms_sign.specs.Tree.{Tree, node}

-- the leaves below q
abbrev pub AreLeavesBelow : Tree → ℕ → List (List ℕ) → Type 0
AreLeavesBelow tree q nodes =
    (r : ℕ) → leaves_of tree.set ≤ r → r < leaves_of tree.set + q → slice_index_or nodes r [] ≡ node tree 0 r

-- the nodes from a number on
abbrev pub AreNodesFrom : Tree → ℕ → List (List ℕ) → Type 0
AreNodesFrom tree first nodes =
    (level r : ℕ) → level ≤ height_of tree.set →
    2 ^ (height_of tree.set - level) ≤ r → r < 2 * 2 ^ (height_of tree.set - level)
    → first ≤ r → slice_index_or nodes r [] ≡ node tree level r
