-- The path of a leaf leads to the root.
use Rattle.std.proofs.Common.{◌≡◌, ℕ, zero, suc, ◌+◌, ◌-◌, ◌*◌, ◌/◌, ◌%◌, ◌^◌, ◌≤◌, ◌<◌, ◌==◌, Bool}
use Rattle.std.proofs.Common.{true, false, List, [], get_or, refl, sym, ap, ◌∙◌, subst, arith}
use Rattle.std.proofs.Math.Nat.{div-one}
use Rattle.std.proofs.lemmas.Bool.{eqb-true, eqb-false}
use Rattle.std.proofs.lemmas.Nat.{pow_pos}
use Rattle.std.proofs.Math.Pow.{pow_mono}
use Rattle.batch_sign.specs.Filled.{AreNodesFrom}
use Rattle.batch_sign.specs.Trees.{climbed, node, parent, path_over, sibling}
use Rattle.batch_sign.proofs.ClimbLaws.{halved}
use Rattle.batch_sign.proofs.TreeLaws.{half}

-- the node above a leaf stands on its level
pub level-low : (h k r : ℕ) → k ≤ h → 2 ^ h ≤ r → 2 ^ (h - k) ≤ r / 2 ^ k
level-low h zero r le low =
    let e : h - 0 ≡ h = omega arith in
    let d : r / 2 ^ 0 ≡ r = div-one r in
    rw (e, d) low
level-low h (suc k) r le low =
    let below = level-low h k r (omega arith) low in
    rw (halved r k) (omega (arith, below, half h k le))

pub level-high : (h k r : ℕ) → k ≤ h → r < 2 * 2 ^ h → r / 2 ^ k < 2 * 2 ^ (h - k)
level-high h zero r le high =
    let e : h - 0 ≡ h = omega arith in
    let d : r / 2 ^ 0 ≡ r = div-one r in
    rw (e, d) high
level-high h (suc k) r le high =
    let below = level-high h k r (omega arith) high in
    rw (halved r k) (omega (arith, below, half h k le))

pub above : (leaves : List (List ℕ)) (h k x : ℕ) (even : Bool) → (x % 2 == 0) ≡ even
    → parent x (node leaves h k (sibling x)) (node leaves h k x) ≡ node leaves h (suc k) (x / 2)
unfolding node
above leaves h k x true e =
    let left : x % 2 ≡ 0 = eqb-true (x % 2) 0 e in
    let two : 2 * (x / 2) ≡ x = omega arith in
    rw (e, two) refl
above leaves h k x false e =
    let odd = eqb-false (x % 2) 0 e in
    let one : x % 2 ≡ 1 = omega arith in
    let right : 2 * (x / 2) + 1 ≡ x = omega arith in
    let left : 2 * (x / 2) ≡ x - 1 = omega arith in
    rw (e, right, left) refl

-- a path climbs from node to node
pub climbs : (leaves : List (List ℕ)) (h r k : ℕ) →
    climbed (path_over leaves h r) r (node leaves h 0 r) k ≡ node leaves h k (r / 2 ^ k)
unfolding climbed
climbs leaves h r zero = let d : r / 2 ^ 0 ≡ r = div-one r in rw d refl
climbs leaves h r (suc k) =
    let x = r / 2 ^ k in
    ap (parent x (node leaves h k (sibling x))) (climbs leaves h r k)
    ∙ above leaves h k x (x % 2 == 0) refl
    ∙ ap (node leaves h (suc k)) (sym (halved r k))

-- a leaf's number is halved to that of the root
pub root-number : (h r : ℕ) → 2 ^ h ≤ r → r < 2 * 2 ^ h → r / 2 ^ h ≡ 1
root-number h r low high =
    let none : h - h ≡ 0 = omega arith in
    let least : 2 ^ 0 ≤ r / 2 ^ h = subst (λ (k : ℕ). 2 ^ k ≤ r / 2 ^ h) none (level-low h h r (omega arith) low) in
    let most : r / 2 ^ h < 2 * 2 ^ 0 = subst (λ (k : ℕ). r / 2 ^ h < 2 * 2 ^ k) none (level-high h h r (omega arith) high) in
    omega arith

-- the path of a leaf leads to the root
pub path-to_root : (leaves : List (List ℕ)) (h r : ℕ) → 2 ^ h ≤ r → r < 2 * 2 ^ h →
    climbed (path_over leaves h r) r (node leaves h 0 r) h ≡ node leaves h h 1
path-to_root leaves h r low high = climbs leaves h r h ∙ ap (node leaves h h) (root-number h r low high)

-- the same path climbs to the same node
pub climbed-same : (p p' : ℕ → List ℕ) (r : ℕ) (leaf : List ℕ) (k : ℕ) → ((i : ℕ) → i < k → p i ≡ p' i)
    → climbed p r leaf k ≡ climbed p' r leaf k
unfolding climbed
climbed-same p p' r leaf zero same = refl
climbed-same p p' r leaf (suc k) same =
    let below : climbed p r leaf k ≡ climbed p' r leaf k = climbed-same p p' r leaf k (λ i lt. same i (omega arith)) in
    rw (below, same k (omega arith)) refl

sibling-low : (m x : ℕ) (even : Bool) → (x % 2 == 0) ≡ even → 2 * m ≤ x → 2 * m ≤ sibling x
sibling-low m x true e low = rw e (omega arith)
sibling-low m x false e low = let odd = eqb-false (x % 2) 0 e in rw e (omega arith)

sibling-high : (m x : ℕ) (even : Bool) → (x % 2 == 0) ≡ even → x < 2 * (2 * m) → sibling x < 2 * (2 * m)
sibling-high m x true e high = let left : x % 2 ≡ 0 = eqb-true (x % 2) 0 e in rw e (omega arith)
sibling-high m x false e high = rw e (omega arith)

-- the sibling on a level below the root stands on that level too
pub sibling_from : (h k r : ℕ) → suc k ≤ h → 2 ^ h ≤ r → 2 ^ (h - k) ≤ sibling (r / 2 ^ k)
sibling_from h k r le low =
    let two = half h k le in
    let x = r / 2 ^ k in
    let on_level = level-low h k r (omega arith) low in
    rw two (sibling-low (2 ^ (h - suc k)) x (x % 2 == 0) refl (omega (arith, two, on_level)))

pub sibling_below : (h k r : ℕ) → suc k ≤ h → r < 2 * 2 ^ h → sibling (r / 2 ^ k) < 2 * 2 ^ (h - k)
sibling_below h k r le high =
    let two = half h k le in
    let x = r / 2 ^ k in
    let on_level = level-high h k r (omega arith) high in
    rw two (sibling-high (2 ^ (h - suc k)) x (x % 2 == 0) refl (omega (arith, two, on_level)))

-- the path stands in the list of the nodes
pub path-stands : (leaves : List (List ℕ)) (h : ℕ) (nodes : List (List ℕ)) (r k : ℕ) → AreNodesFrom leaves h 1 nodes → suc k ≤ h
    → 2 ^ h ≤ r → r < 2 * 2 ^ h → get_or nodes (sibling (r / 2 ^ k)) [] ≡ path_over leaves h r k
path-stands leaves h nodes r k filled le low high =
    let from = sibling_from h k r le low in
    let below = sibling_below h k r le high in
    let some : 1 ≤ 2 ^ (h - k) = pow_pos (h - k) in
    filled k (sibling (r / 2 ^ k)) (omega arith) from below (omega (arith, from, some))

pub sibling_inside : (h k r : ℕ) → suc k ≤ h → r < 2 * 2 ^ h → sibling (r / 2 ^ k) < 2 * 2 ^ h
sibling_inside h k r le high =
    let below = sibling_below h k r le high in
    let level : 2 ^ (h - k) ≤ 2 ^ h = pow_mono (omega arith) in
    omega (arith, below, level)
