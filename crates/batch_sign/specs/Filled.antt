-- Which nodes of a tree stand in a list by their numbers.
use Rattle.std.specs.Prelude.{◌≡◌, ℕ, ◌+◌, ◌-◌, ◌*◌, ◌^◌, ◌≤◌, ◌<◌, List, [], slice_index_or}
use Rattle.batch_sign.specs.Trees.{node}

-- so many leaves, from the first on
abbrev pub AreLeavesBelow : (leaves : List (List ℕ)) (depth count : ℕ) → List (List ℕ) → Type 0
AreLeavesBelow leaves depth count nodes =
    (r : ℕ) → 2 ^ depth ≤ r → r < 2 ^ depth + count → slice_index_or nodes r [] ≡ node leaves depth 0 r

-- the nodes from a number on
abbrev pub AreNodesFrom : (leaves : List (List ℕ)) (depth first : ℕ) → List (List ℕ) → Type 0
AreNodesFrom leaves depth first nodes =
    (level r : ℕ) → level ≤ depth → 2 ^ (depth - level) ≤ r → r < 2 * 2 ^ (depth - level)
    → first ≤ r → slice_index_or nodes r [] ≡ node leaves depth level r
