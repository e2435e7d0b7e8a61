-- What a key keeps between its signatures.
use Rattle.std.specs.Prelude.{◌≡◌, ℕ, ◌+◌, ◌*◌, ◌<◌, ◌≤◌, vec_len}
use Rattle.lms_sign.specs.Sets.{leaves_of, size_of}
use Rattle.lms_sign.specs.Tree.{public_of}
use Rattle.lms_sign.specs.Verifying.{Valid}
use Rattle.hss_sign.specs.declared.material.Material.{Material}
use Rattle.hss_sign.specs.declared.bottom.Bottom.{Bottom}
use Rattle.hss_sign.specs.declared.levels.Levels.{Levels}
use Rattle.hss_sign.specs.Keys.{top_tree, bottom_tree, bottom_key, top_signature, heading_of}

-- the bottom level under a top leaf, with its next leaf, and what stands before its signatures
pub record IsUnder (m : Material) (top_leaf next : ℕ) (bottom : Bottom) : Type 0 where
  pub key : bottom.key ≡ record { tree = bottom_tree m top_leaf; next = next }
  pub heading : bottom.heading.items ≡ heading_of m top_leaf
  pub size : vec_len bottom.heading ≡ 60 + size_of m.top
  pub signed : Valid (public_of (top_tree m)) (bottom_key m top_leaf) (top_signature m top_leaf)

-- the levels of a key: the bottom level is that under the top leaf that was spent last
pub record IsKept (levels : Levels) : Type 0 where
  pub in_top : levels.top_leaf < leaves_of levels.material.top
  pub in_bottom : levels.bottom.key.next ≤ leaves_of levels.material.bottom
  pub top : levels.top ≡ record { tree = top_tree levels.material; next = levels.top_leaf + 1 }
  pub bottom : IsUnder levels.material levels.top_leaf levels.bottom.key.next levels.bottom

-- the number of the next signature
abbrev pub number_of : Levels → ℕ
number_of levels = levels.top_leaf * leaves_of levels.material.bottom + levels.bottom.key.next
