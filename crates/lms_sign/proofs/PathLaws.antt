-- The path of a leaf leads to the root.
use Rattle.std.proofs.Common.{◌≡◌, ℕ, zero, suc, ◌+◌, ◌-◌, ◌*◌, ◌/◌, ◌%◌, ◌^◌, ◌≤◌, ◌<◌, ◌==◌, Bool}
use Rattle.std.proofs.Common.{true, false, List, [], get_or, add-one, refl, sym, ap, ◌∙◌, subst, arith}
use Rattle.std.proofs.Math.Nat.{pow-suc, div-div-eq-div-mul, div-one}
use Rattle.std.proofs.lemmas.Bool.{eqb-true, eqb-false}
use Rattle.std.proofs.lemmas.Nat.{pow_pos}
use Rattle.std.proofs.Math.Pow.{pow_mono}
use Rattle.lms_sign.specs.Filled.{AreNodesFrom}
use Rattle.lms_sign.specs.Sets.{height_of, leaves_of}
use Rattle.lms_sign.specs.Tree.{Tree, node}
use Rattle.lms_sign.specs.Signing.{sibling, path_of}
use Rattle.lms_sign.specs.Verifying.{parent, climbed}
use Rattle.lms_sign.specs.Laws.{PathLeadsToRoot}
use Rattle.lms_sign.proofs.TreeLaws.{half}

pub halved : (r k : ℕ) → r / 2 ^ suc k ≡ r / 2 ^ k / 2
halved r k = rw (pow-suc 2 k) (sym (div-div-eq-div-mul r (2 ^ k) 2))

-- the node above a leaf stands on its level
pub level-low : (h k r : ℕ) → k ≤ h → 2 ^ h ≤ r → 2 ^ (h - k) ≤ r / 2 ^ k
level-low h zero r le low =
    let e : h - 0 ≡ h = omega arith in
    let d : r / 2 ^ 0 ≡ r = div-one r in
    rw (e, d) low
level-low h (suc k) r le low =
    let below = level-low h k r (omega arith) low in
    rw (halved r k) (omega (arith, below, half h k le))

pub level-high : (h k r : ℕ) → k ≤ h → r < 2 * 2 ^ h → r / 2 ^ k < 2 * 2 ^ (h - k)
level-high h zero r le high =
    let e : h - 0 ≡ h = omega arith in
    let d : r / 2 ^ 0 ≡ r = div-one r in
    rw (e, d) high
level-high h (suc k) r le high =
    let below = level-high h k r (omega arith) high in
    rw (halved r k) (omega (arith, below, half h k le))

above : (tree : Tree) (k x : ℕ) (even : Bool) → (x % 2 == 0) ≡ even
    → parent tree.ident x (node tree k (sibling x)) (node tree k x) ≡ node tree (suc k) (x / 2)
unfolding node
above tree k x true e =
    let left : x % 2 ≡ 0 = eqb-true (x % 2) 0 e in
    let two : 2 * (x / 2) ≡ x = omega arith in
    rw (e, two) refl
above tree k x false e =
    let odd = eqb-false (x % 2) 0 e in
    let one : x % 2 ≡ 1 = omega arith in
    let right : 2 * (x / 2) + 1 ≡ x = omega arith in
    let left : 2 * (x / 2) ≡ x - 1 = omega arith in
    rw (e, right, left) refl

-- a path climbs from node to node
pub climbs : (tree : Tree) (r k : ℕ) → climbed tree.ident (path_of tree r) r (node tree 0 r) k ≡ node tree k (r / 2 ^ k)
unfolding climbed
climbs tree r zero = let d : r / 2 ^ 0 ≡ r = div-one r in rw d refl
climbs tree r (suc k) =
    let x = r / 2 ^ k in
    ap (parent tree.ident x (node tree k (sibling x))) (climbs tree r k)
    ∙ above tree k x (x % 2 == 0) refl
    ∙ ap (node tree (suc k)) (sym (halved r k))

-- the path of a leaf leads to the root
pub path-to_root : PathLeadsToRoot
path-to_root tree q lt =
    let h = height_of tree.set in
    let r = leaves_of tree.set + q in
    let none : h - h ≡ 0 = omega arith in
    let low : 2 ^ 0 ≤ r / 2 ^ h = subst (λ (k : ℕ). 2 ^ k ≤ r / 2 ^ h) none (level-low h h r (omega arith) (omega arith)) in
    let high : r / 2 ^ h < 2 * 2 ^ 0 = subst (λ (k : ℕ). r / 2 ^ h < 2 * 2 ^ k) none (level-high h h r (omega arith) (omega arith)) in
    let one : r / 2 ^ h ≡ 1 = omega arith in
    climbs tree r h ∙ ap (node tree h) one

-- the same path climbs to the same node
pub climbed-same : (ident : List ℕ) (p p' : ℕ → List ℕ) (r : ℕ) (leaf : List ℕ) (k : ℕ) → ((i : ℕ) → i < k → p i ≡ p' i)
    → climbed ident p r leaf k ≡ climbed ident p' r leaf k
unfolding climbed
climbed-same ident p p' r leaf zero same = refl
climbed-same ident p p' r leaf (suc k) same =
    let below : climbed ident p r leaf k ≡ climbed ident p' r leaf k = climbed-same ident p p' r leaf k (λ i lt. same i (omega arith)) in
    rw (below, same k (omega arith)) refl

pub halved_more : (r k : ℕ) → r / 2 ^ (k + 1) ≡ r / 2 ^ k / 2
halved_more r k = rw add-one (halved r k)

pub climbed_more : (ident : List ℕ) (p : ℕ → List ℕ) (r : ℕ) (leaf : List ℕ) (k : ℕ)
    → climbed ident p r leaf (k + 1) ≡ parent ident (r / 2 ^ k) (p k) (climbed ident p r leaf k)
unfolding climbed
climbed_more ident p r leaf k = rw add-one refl

sibling-low : (m x : ℕ) (even : Bool) → (x % 2 == 0) ≡ even → 2 * m ≤ x → 2 * m ≤ sibling x
sibling-low m x true e low = rw e (omega arith)
sibling-low m x false e low = let odd = eqb-false (x % 2) 0 e in rw e (omega arith)

sibling-high : (m x : ℕ) (even : Bool) → (x % 2 == 0) ≡ even → x < 2 * (2 * m) → sibling x < 2 * (2 * m)
sibling-high m x true e high = let left : x % 2 ≡ 0 = eqb-true (x % 2) 0 e in rw e (omega arith)
sibling-high m x false e high = rw e (omega arith)

-- the sibling on a level below the root stands on that level too
pub sibling_from : (h k r : ℕ) → suc k ≤ h → 2 ^ h ≤ r → 2 ^ (h - k) ≤ sibling (r / 2 ^ k)
sibling_from h k r le low =
    let two = half h k le in
    let x = r / 2 ^ k in
    let on_level = level-low h k r (omega arith) low in
    rw two (sibling-low (2 ^ (h - suc k)) x (x % 2 == 0) refl (omega (arith, two, on_level)))

pub sibling_below : (h k r : ℕ) → suc k ≤ h → r < 2 * 2 ^ h → sibling (r / 2 ^ k) < 2 * 2 ^ (h - k)
sibling_below h k r le high =
    let two = half h k le in
    let x = r / 2 ^ k in
    let on_level = level-high h k r (omega arith) high in
    rw two (sibling-high (2 ^ (h - suc k)) x (x % 2 == 0) refl (omega (arith, two, on_level)))

-- the path stands in the list of the nodes
pub path-stands : (tree : Tree) (nodes : List (List ℕ)) (r k : ℕ) → AreNodesFrom tree 1 nodes → suc k ≤ height_of tree.set
    → leaves_of tree.set ≤ r → r < 2 * leaves_of tree.set → get_or nodes (sibling (r / 2 ^ k)) [] ≡ path_of tree r k
path-stands tree nodes r k filled le low high =
    let from = sibling_from (height_of tree.set) k r le low in
    let below = sibling_below (height_of tree.set) k r le high in
    let some : 1 ≤ 2 ^ (height_of tree.set - k) = pow_pos (height_of tree.set - k) in
    filled k (sibling (r / 2 ^ k)) (omega arith) from below (omega (arith, from, some))

pub sibling_inside : (h k r : ℕ) → suc k ≤ h → r < 2 * 2 ^ h → sibling (r / 2 ^ k) < 2 * 2 ^ h
sibling_inside h k r le high =
    let below = sibling_below h k r le high in
    let level : 2 ^ (h - k) ≤ 2 ^ h = pow_mono (omega arith) in
    omega (arith, below, level)
