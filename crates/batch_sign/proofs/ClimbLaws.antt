-- A path leads from node to node.
use Rattle.std.proofs.Common.{◌≡◌, ℕ, suc, ◌+◌, ◌/◌, ◌^◌, List, add-one, refl, sym}
use Rattle.std.proofs.Math.Nat.{pow-suc, div-div-eq-div-mul}
use Rattle.batch_sign.specs.Trees.{climbed, parent}

pub halved : (r k : ℕ) → r / 2 ^ suc k ≡ r / 2 ^ k / 2
halved r k = rw (pow-suc 2 k) (sym (div-div-eq-div-mul r (2 ^ k) 2))

pub halved_more : (r k : ℕ) → r / 2 ^ (k + 1) ≡ r / 2 ^ k / 2
halved_more r k = rw add-one (halved r k)

pub climbed_more : (path : ℕ → List ℕ) (r : ℕ) (leaf : List ℕ) (k : ℕ) →
    climbed path r leaf (k + 1) ≡ parent (r / 2 ^ k) (path k) (climbed path r leaf k)
unfolding climbed
climbed_more path r leaf k = rw add-one refl

pub climbed_none : (path : ℕ → List ℕ) (r : ℕ) (leaf : List ℕ) → climbed path r leaf 0 ≡ leaf
unfolding climbed
climbed_none path r leaf = refl
