-- The hash chains of a leaf and the key that they end in (RFC 8554, section 4.3).
use Rattle.std.specs.Prelude.{ℕ, zero, suc, List, [], ◌∷◌, ◌++◌}
use Rattle.std.specs.Int.{w16, to_be_bytes}
use Rattle.sha2.specs.Sha256.{sha256}
use Rattle.sha256_lanes.specs.Chains as chains
use Rattle.sha256_lanes.specs.Chains.{head_of}
use Rattle.lms_ots.specs.declared.sets.OtsSet.{OtsSet}
use Rattle.lms_ots.specs.Sets.{chains_of, last_of}

-- a leaf: the identifier of its tree and its number
pub record Leaf : Type 0 where
  pub ident : List ℕ
  pub q : ℕ

abbrev pub leaf_of : List ℕ → ℕ → Leaf
leaf_of ident q = record { ident = ident; q = q }

-- I ‖ u32 q, with which each hash of a leaf begins
abbrev pub head : Leaf → List ℕ
head leaf = head_of leaf.ident leaf.q

-- the secret start of chain i, made from SEED (appendix A)
unfoldable pub start_of : Leaf → List ℕ → ℕ → List ℕ
start_of leaf seed i = sha256 (head leaf ++ to_be_bytes w16 i ++ 0xff ∷ [] ++ seed)

-- chain i from one place to another
abbrev pub chain : Leaf → ℕ → ℕ → ℕ → List ℕ → List ℕ
chain leaf i from to tmp = chains.chain (head leaf) i from to tmp

-- y[0] ‖ .. ‖ y[n - 1]
unfoldable pub joined : (ℕ → List ℕ) → ℕ → List ℕ
joined y zero = []
joined y (suc n) = joined y n ++ y n

-- K of the ends y
unfoldable pub key_of_ends : OtsSet → Leaf → (ℕ → List ℕ) → List ℕ
key_of_ends set leaf y = sha256 (head leaf ++ 0x80 ∷ 0x80 ∷ [] ++ joined y (chains_of set))

-- the end of chain i
abbrev pub end_of : OtsSet → Leaf → List ℕ → ℕ → List ℕ
end_of set leaf seed i = chain leaf i 0 (last_of set) (start_of leaf seed i)

-- K, the leaf's one-time public key
abbrev pub public_of : OtsSet → Leaf → List ℕ → List ℕ
public_of set leaf seed = key_of_ends set leaf (end_of set leaf seed)
