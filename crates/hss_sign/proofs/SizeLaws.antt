-- The bytes of the pieces before a bottom signature.
use Rattle.std.proofs.Common.{◌≡◌, ℕ, length}
use Rattle.lms_sign.specs.Sets.{size_of}
use Rattle.lms_sign.proofs.PartLaws.{length-ident, length-public, length-made}
use Rattle.hss_sign.specs.declared.material.Material.{Material}
use Rattle.hss_sign.specs.Keys.{bottom_seed, bottom_tree, bottom_key, top_tree, top_signature}

pub length-top_signature : (m : Material) (q : ℕ) → length (top_signature m q) ≡ size_of m.top
unfolding top_signature
length-top_signature m q = length-made (top_tree m) q (bottom_key m q)

pub length-bottom_key : (m : Material) (q : ℕ) → length (bottom_key m q) ≡ 56
unfolding bottom_key
length-bottom_key m q = length-public (bottom_tree m q) (length-ident (bottom_seed m q))
