-- What `keys`, `sign` and `verify` lead to, for LMS and for HSS.
use Rattle.std.specs.Prelude.{ℕ, List, [], ◌∷◌, ◌++◌, codes, Option, Some, None}
use Rattle.batch_text.specs.Texts.{hex_line}
use Rattle.hss_sign.specs.Keys.{hss_public_of, hss_signature_of, material_of as key_of}
use Rattle.hss_sign.specs.Verifying.{first_refusal as first_hss_refusal}
use Rattle.hss_sign.specs.declared.verifying.HssRefusal.{HssRefusal}
use Rattle.lms_sign.specs.Signing.{signature_of}
use Rattle.lms_sign.specs.Tree.{Tree, tree_of, public_of}
use Rattle.lms_sign.specs.Numbers.{refusal_number}
use Rattle.lms_sign.specs.Verifying.{first_refusal}
use Rattle.lms_sign.specs.declared.verifying.LmsRefusal.{LmsRefusal}
use Rattle.command_ends.specs.Outcome.{Outcome, Written, Refused, RefusedAt}
use Rattle.command_input.specs.declared.command.Claim.{Claim}
use Rattle.command_input.specs.declared.command.HssMaterial.{HssMaterial}
use Rattle.command_input.specs.declared.command.KeyMaterial.{KeyMaterial}
use Rattle.command_input.specs.declared.command.SigningLeaf.{SigningLeaf}

abbrev pub tree_named : KeyMaterial → Tree
tree_named m = tree_of m.set m.ident m.seed

abbrev pub keys_made : KeyMaterial → Outcome
keys_made m = Written (hex_line (public_of (tree_named m)))

abbrev pub signed : SigningLeaf → List ℕ → Outcome
signed signing message = Written (hex_line (signature_of (tree_named signing.material) signing.leaf message))

abbrev pub accepted : Outcome
accepted = Written (codes "accepted" ++ 10 ∷ [])

abbrev pub verified_with : Option LmsRefusal → Outcome
verified_with None = accepted
verified_with (Some refusal) = Refused (refusal_number refusal)

abbrev pub verified : Claim → List ℕ → Outcome
verified claim message = verified_with (first_refusal claim.public message claim.signature)

-- ---- the same of a key of two levels

abbrev pub hss_keys_made : HssMaterial → Outcome
hss_keys_made m = Written (hex_line (hss_public_of (key_of m.top.seed m.top.ident m.top.set m.bottom)))

abbrev pub hss_signed : HssMaterial → ℕ → List ℕ → Outcome
hss_signed m number message =
    Written (hex_line (hss_signature_of (key_of m.top.seed m.top.ident m.top.set m.bottom) number message))

abbrev pub hss_verified_with : Option HssRefusal → Outcome
hss_verified_with None = accepted
hss_verified_with (Some refusal) = RefusedAt refusal

abbrev pub hss_verified : Claim → List ℕ → Outcome
hss_verified claim message = hss_verified_with (first_hss_refusal claim.public message claim.signature)
