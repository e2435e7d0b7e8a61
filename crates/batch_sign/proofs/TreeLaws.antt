-- A tree that is filled from its leaves up.
use Rattle.std.proofs.Common.{◌≡◌, ◌≢◌, ℕ, zero, suc, ◌+◌, ◌-◌, ◌*◌, ◌^◌, ◌≤◌, ◌<◌, List, [], ◌∷◌, length}
use Rattle.std.proofs.Common.{get_or, refl, sym, ◌∙◌, subst, arith, get_or-set_other, get_or-set_same, inl, inr}
use Rattle.std.proofs.Math.ListN.{set}
use Rattle.std.proofs.Math.Nat.{pow-suc}
use Rattle.std.proofs.Math.Pow.{pow_mono}
use Rattle.std.proofs.lemmas.Bool.{cases_lt}
use Rattle.batch_sign.specs.Trees.{inner_node, leaf_at, node}
use Rattle.batch_sign.specs.Filled.{AreLeavesBelow, AreNodesFrom}

-- a level has half the nodes of the level below
pub half : (h k : ℕ) → suc k ≤ h → 2 ^ (h - k) ≡ 2 * 2 ^ (h - suc k)
half h k le = let e : h - k ≡ suc (h - suc k) = omega arith in rw (e, pow-suc) (omega arith)

pub leaf-node : (leaves : List (List ℕ)) (h place : ℕ) → node leaves h 0 (2 ^ h + place) ≡ leaf_at leaves place
unfolding node
leaf-node leaves h place = let e : 2 ^ h + place - 2 ^ h ≡ place = omega arith in rw e refl

-- the leaves are the nodes from 2 ^ h on
pub from_leaves : (leaves : List (List ℕ)) (h : ℕ) (nodes : List (List ℕ)) →
    AreLeavesBelow leaves h (2 ^ h) nodes → AreNodesFrom leaves h (2 ^ h) nodes
from_leaves leaves h nodes filled zero r le low high from =
    let e : h - 0 ≡ h = omega arith in
    let below : r < 2 * 2 ^ h = rw e at high in
    filled r from (omega arith)
from_leaves leaves h nodes filled (suc k) r le low high from =
    let whole : 2 ^ (h - k) ≤ 2 ^ h = pow_mono (omega arith) in
    absurd (omega (arith, half h k le))

set_there : (leaves : List (List ℕ)) (h : ℕ) (nodes : List (List ℕ)) (r k : ℕ) →
    r < 2 ^ h → 2 * r + 1 < length nodes → AreNodesFrom leaves h (r + 1) nodes
    → k ≤ h → 2 ^ (h - k) ≤ r → r < 2 * 2 ^ (h - k) → 1 ≤ r
    → inner_node (get_or nodes (2 * r) []) (get_or nodes (2 * r + 1) []) ≡ node leaves h k r
unfolding node
set_there leaves h nodes r zero below room so_far le low high pos =
    let e : h - 0 ≡ h = omega arith in
    let from : 2 ^ h ≤ r = rw e at low in
    absurd (omega arith)
set_there leaves h nodes r (suc k) below room so_far le low high pos =
    let two = half h k le in
    let left = so_far k (2 * r) (omega arith) (omega (arith, two)) (omega (arith, two)) (omega arith) in
    let right = so_far k (2 * r + 1) (omega arith) (omega (arith, two)) (omega (arith, two)) (omega arith) in
    rw (left, right) refl

pub goes_up : (leaves : List (List ℕ)) (h : ℕ) (nodes : List (List ℕ)) (r : ℕ) →
    1 ≤ r → r < 2 ^ h → 2 * r + 1 < length nodes → AreNodesFrom leaves h (r + 1) nodes
    → AreNodesFrom leaves h r (set nodes r (inner_node (get_or nodes (2 * r) []) (get_or nodes (2 * r + 1) [])))
goes_up leaves h nodes r pos below room so_far k r' le low high from =
    elim (cases_lt r r') [
      | inl lt ↦ let ne : r' ≢ r = omega arith in rw get_or-set_other (so_far k r' le low high (omega arith))
      | inr ge ↦
          let same : r ≡ r' = omega arith in
          let here : r < length nodes = omega arith in
          let P : ℕ → Type 0 = λ x. get_or
          (set nodes r (inner_node (get_or nodes (2 * r) []) (get_or nodes (2 * r + 1) []))) x [] ≡ node leaves h k x in
          subst P same (rw get_or-set_same (set_there leaves h nodes r k below room so_far le (omega arith) (omega arith) pos))
    ]

pub get_or-same : (nodes : List (List ℕ)) (i : ℕ) (d e : List ℕ) → i < length nodes → get_or nodes i d ≡ get_or nodes i e
get_or-same [] i d e lt = absurd (omega arith)
get_or-same (x ∷ xs) zero d e lt = refl
get_or-same (x ∷ xs) (suc i) d e lt = get_or-same xs i d e (omega arith)

-- one leaf more
pub leaf_more : (leaves : List (List ℕ)) (h : ℕ) (nodes : List (List ℕ)) (place : ℕ) (leaf : List ℕ) → 2 ^ h + place < length nodes
    → leaf ≡ leaf_at leaves place → AreLeavesBelow leaves h place nodes
    → AreLeavesBelow leaves h (place + 1) (set nodes (2 ^ h + place) leaf)
leaf_more leaves h nodes place leaf room is so_far r low high =
    elim (cases_lt r (2 ^ h + place)) [
      | inl lt ↦ let ne : r ≢ 2 ^ h + place = omega arith in rw get_or-set_other (so_far r low (omega arith))
      | inr ge ↦
          let same : 2 ^ h + place ≡ r = omega arith in
          let P : ℕ → Type 0 = λ x. get_or (set nodes (2 ^ h + place) leaf) x [] ≡ node leaves h 0 x in
          subst P same (rw get_or-set_same (is ∙ sym (leaf-node leaves h place)))
    ]
