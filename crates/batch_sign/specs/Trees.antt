-- The tree of a batch: a hash tree over its messages, in the order in which they came.
use Rattle.std.specs.Prelude.{ℕ, zero, suc, ◌+◌, ◌-◌, ◌*◌, ◌/◌, ◌%◌, ◌^◌, ◌==◌, nat_le, nat_lt, List, [], ◌∷◌, ◌++◌}
use Rattle.std.specs.Prelude.{length, slice_index_or, if◌then◌else◌}
use Rattle.sha2.specs.Sha256.{sha256}

-- the most messages of a batch, and the greatest depth of its tree
abbrev pub most_messages : ℕ
most_messages = 256

abbrev pub most_depth : ℕ
most_depth = 8

-- the least depth of a tree with a leaf for each of so many messages
unfoldable pub depth_of : ℕ → ℕ
depth_of count =
    if nat_le count 1 then 0
    else if nat_le count 2 then 1
    else if nat_le count 4 then 2
    else if nat_le count 8 then 3
    else if nat_le count 16 then 4
    else if nat_le count 32 then 5
    else if nat_le count 64 then 6
    else if nat_le count 128 then 7
    else most_depth

-- the leaf of a message, and the text of which it is the digest: 00 ‖ message
abbrev pub leaf_text : List ℕ → List ℕ
leaf_text message = 0 ∷ message

unfoldable pub leaf_of : List ℕ → List ℕ
leaf_of message = sha256 (leaf_text message)

-- the node over two nodes, and its text: 01 ‖ left ‖ right
abbrev pub node_text : (left right : List ℕ) → List ℕ
node_text left right = 1 ∷ left ++ right

unfoldable pub inner_node : (left right : List ℕ) → List ℕ
inner_node left right = sha256 (node_text left right)

-- where the last stands again behind the last, the place at which that stands
abbrev pub place_among : (count place : ℕ) → ℕ
place_among count place = if nat_lt place count then place else count - 1

-- the leaf at a place
abbrev pub leaf_at : List (List ℕ) → ℕ → List ℕ
leaf_at leaves place = slice_index_or leaves (place_among (length leaves) place) []

-- the node with number r, so many levels above the leaves; the leaf at a place has the number 2 ^ depth + place
unfoldable pub node : (leaves : List (List ℕ)) (depth level r : ℕ) → List ℕ
node leaves depth zero r = leaf_at leaves (r - 2 ^ depth)
node leaves depth (suc level) r = inner_node (node leaves depth level (2 * r)) (node leaves depth level (2 * r + 1))

-- the depth of the tree over these leaves, and its root
abbrev pub depth_over : List (List ℕ) → ℕ
depth_over leaves = depth_of (length leaves)

abbrev pub root_over : List (List ℕ) → List ℕ
root_over leaves = node leaves (depth_over leaves) (depth_over leaves) 1

-- what is signed of a batch: 07 ‖ u8 depth ‖ root
abbrev pub root_words : ℕ → List ℕ → List ℕ
root_words depth root = 7 ∷ depth ∷ root

abbrev pub words_over : List (List ℕ) → List ℕ
words_over leaves = root_words (depth_over leaves) (root_over leaves)

-- the other child of the same node
abbrev pub sibling : ℕ → ℕ
sibling r = if r % 2 == 0 then r + 1 else r - 1

-- the path of the leaf with number r: the siblings of the nodes above it, the leaf's own first
abbrev pub path_over : (leaves : List (List ℕ)) (depth r i : ℕ) → List ℕ
path_over leaves depth r i = node leaves depth i (sibling (r / 2 ^ i))

-- the node above the node r, of which the sibling is known too, and its text
abbrev pub parent : (r : ℕ) (sibling own : List ℕ) → List ℕ
parent r sibling own = if r % 2 == 0 then inner_node own sibling else inner_node sibling own

abbrev pub parent_text : (r : ℕ) (sibling own : List ℕ) → List ℕ
parent_text r sibling own = if r % 2 == 0 then node_text own sibling else node_text sibling own

-- the node to which a path leads, some levels above the leaf with number r
unfoldable pub climbed : (path : ℕ → List ℕ) (r : ℕ) (leaf : List ℕ) → ℕ → List ℕ
climbed path r leaf zero = leaf
climbed path r leaf (suc level) = parent (r / 2 ^ level) (path level) (climbed path r leaf level)
