-- A tree that is filled from its leaves up.
use Rattle.std.proofs.Common.{◌≡◌, ◌≢◌, ℕ, zero, suc, ◌+◌, ◌-◌, ◌*◌, ◌^◌, ◌≤◌, ◌<◌, List, [], ◌∷◌, length}
use Rattle.std.proofs.Common.{get_or, refl, subst, arith, get_or-set_other, get_or-set_same, inl, inr}
use Rattle.std.proofs.Math.ListN.{set}
use Rattle.std.proofs.Math.Nat.{pow-suc}
use Rattle.std.proofs.Math.Pow.{pow_mono}
use Rattle.std.proofs.lemmas.Bool.{cases_lt}
use Rattle.lms_sign.specs.Sets.{height_of, leaves_of}
use Rattle.lms_sign.specs.Tree.{Tree, inner_node, node}
use Rattle.lms_sign.specs.Filled.{AreLeavesBelow, AreNodesFrom}

-- a level has half the nodes of the level below
pub half : (h k : ℕ) → suc k ≤ h → 2 ^ (h - k) ≡ 2 * 2 ^ (h - suc k)
half h k le = let e : h - k ≡ suc (h - suc k) = omega arith in rw (e, pow-suc) (omega arith)

-- the leaves are the nodes from 2 ^ h on
pub from_leaves : (tree : Tree) (nodes : List (List ℕ)) →
    AreLeavesBelow tree (leaves_of tree.set) nodes → AreNodesFrom tree (leaves_of tree.set) nodes
from_leaves tree nodes leaves zero r le low high from =
    let e : height_of tree.set - 0 ≡ height_of tree.set = omega arith in
    let below : r < 2 * 2 ^ height_of tree.set = rw e at high in
    leaves r from (omega arith)
from_leaves tree nodes leaves (suc k) r le low high from =
    let whole : 2 ^ (height_of tree.set - k) ≤ 2 ^ height_of tree.set = pow_mono (omega arith) in
    absurd (omega (arith, half (height_of tree.set) k le))

set_there : (tree : Tree) (nodes : List (List ℕ)) (r k : ℕ) →
    r < leaves_of tree.set → 2 * r + 1 < length nodes → AreNodesFrom tree (r + 1) nodes
    → k ≤ height_of tree.set → 2 ^ (height_of tree.set - k) ≤ r → r < 2 * 2 ^ (height_of tree.set - k) → 1 ≤ r
    → inner_node tree.ident r (get_or nodes (2 * r) []) (get_or nodes (2 * r + 1) []) ≡ node tree k r
unfolding node
set_there tree nodes r zero below room so_far le low high pos =
    let e : height_of tree.set - 0 ≡ height_of tree.set = omega arith in
    let from : 2 ^ height_of tree.set ≤ r = rw e at low in
    absurd (omega arith)
set_there tree nodes r (suc k) below room so_far le low high pos =
    let h = half (height_of tree.set) k le in
    let left = so_far k (2 * r) (omega arith) (omega (arith, h)) (omega (arith, h)) (omega arith) in
    let right = so_far k (2 * r + 1) (omega arith) (omega (arith, h)) (omega (arith, h)) (omega arith) in
    rw (left, right) refl

pub goes_up : (tree : Tree) (nodes : List (List ℕ)) (r : ℕ) →
    1 ≤ r → r < leaves_of tree.set → 2 * r + 1 < length nodes → AreNodesFrom tree (r + 1) nodes
    → AreNodesFrom tree r (set nodes r (inner_node tree.ident r (get_or nodes (2 * r) []) (get_or nodes (2 * r + 1) [])))
goes_up tree nodes r pos below room so_far k r' le low high from =
    elim (cases_lt r r') [
      | inl lt ↦ let ne : r' ≢ r = omega arith in rw get_or-set_other (so_far k r' le low high (omega arith))
      | inr ge ↦
          let same : r ≡ r' = omega arith in
          let here : r < length nodes = omega arith in
          let P : ℕ → Type 0 = λ x. get_or
          (set nodes r (inner_node tree.ident r (get_or nodes (2 * r) []) (get_or nodes (2 * r + 1) []))) x [] ≡ node tree k x in
          subst P same (rw get_or-set_same (set_there tree nodes r k below room so_far le (omega arith) (omega arith) pos))
    ]

pub get_or-same : (nodes : List (List ℕ)) (i : ℕ) (d e : List ℕ) → i < length nodes → get_or nodes i d ≡ get_or nodes i e
get_or-same [] i d e lt = absurd (omega arith)
get_or-same (x ∷ xs) zero d e lt = refl
get_or-same (x ∷ xs) (suc i) d e lt = get_or-same xs i d e (omega arith)
