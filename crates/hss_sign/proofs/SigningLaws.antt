-- What the levels sign is the signature with the number at which they stand, and is valid.
use Rattle.std.proofs.Common.{◌≡◌, ℕ, ◌+◌, ◌*◌, ◌<◌, List, [], ◌∷◌, ◌++◌, refl, sym, ap, ◌∙◌, subst, append_assoc, arith}
use Rattle.std.specs.Int.{w32, to_be_bytes}
use Rattle.lms_sign.specs.Sets.{leaves_of}
use Rattle.lms_sign.specs.Tree.{public_of}
use Rattle.lms_sign.specs.Signing.{Key, signature_of}
use Rattle.lms_sign.specs.Verifying.{Valid}
use Rattle.hss_sign.specs.declared.material.Material.{Material}
use Rattle.hss_sign.specs.declared.levels.Levels.{Levels}
use Rattle.hss_sign.specs.Keys.{HssState, state_of, after_signing, top_leaf_of, bottom_leaf_of, top_tree}
use Rattle.hss_sign.specs.Keys.{bottom_tree, bottom_key, top_signature, heading_of, hss_signature_of, hss_public_of}
use Rattle.hss_sign.specs.Kept.{IsKept, number_of}
use Rattle.hss_sign.specs.Verifying.{HssValid}
use Rattle.hss_sign.proofs.NumberLaws.{top-of_number, bottom-of_number}

pub made-is : (levels : Levels) (message : List ℕ) → IsKept levels → levels.bottom.key.next < leaves_of levels.material.bottom
    → levels.bottom.heading.items ++ signature_of levels.bottom.key.tree levels.bottom.key.next message
    ≡ hss_signature_of levels.material (number_of levels) message
unfolding hss_signature_of
made-is levels message kept more =
    let m = levels.material in
    let q = levels.top_leaf in
    let leaf = levels.bottom.key.next in
    let under = kept.bottom in
    let top : top_leaf_of m (number_of levels) ≡ q = top-of_number m.bottom q leaf more in
    let low : bottom_leaf_of m (number_of levels) ≡ leaf = bottom-of_number m.bottom q leaf more in
    let keyed = ap (λ (k : Key). levels.bottom.heading.items ++ signature_of k.tree k.next message) under.key in
    let headed = ap (λ (h : List ℕ). h ++ signature_of (bottom_tree m q) leaf message) under.heading in
    let leaf_is = ap (λ (n : ℕ). heading_of m q ++ signature_of (bottom_tree m q) n message) low in
    let top_is = ap (λ (k : ℕ). heading_of m k ++ signature_of (bottom_tree m k) (bottom_leaf_of m (number_of levels)) message) top in
    keyed ∙ headed ∙ sym (top_is ∙ leaf_is)

same-state : (m n : Material) (a b p q : ℕ) → m ≡ n → a ≡ b → p ≡ q
    → state_of m a p ≡ state_of n b q
same-state m n a b p q material next held = rw (material, next, held) refl

-- what a key becomes whose bottom key signs once more
pub after-is : (levels : Levels) (key : HssState) (leaf : ℕ) → levels.bottom.key.next < leaves_of levels.material.bottom
    → levels.material ≡ key.material → number_of levels ≡ key.next → leaf ≡ levels.bottom.key.next + 1
    → state_of levels.material (levels.top_leaf * leaves_of levels.material.bottom + leaf) levels.top_leaf ≡ after_signing key
after-is levels key leaf more material number leaf_is =
    let m = levels.material in
    let q = levels.top_leaf in
    let next : q * leaves_of m.bottom + leaf ≡ key.next + 1 = omega (arith, leaf_is, number) in
    let held : q ≡ top_leaf_of key.material key.next =
    sym (top-of_number m.bottom q levels.bottom.key.next more)
    ∙ ap (top_leaf_of m) number ∙ ap (λ (n : Material). top_leaf_of n key.next) material in
    same-state m key.material _ _ q _ material next held

pub made-valid : (levels : Levels) (message : List ℕ) → IsKept levels
    → Valid (public_of levels.bottom.key.tree) message (signature_of levels.bottom.key.tree levels.bottom.key.next message)
    → HssValid (hss_public_of levels.material) message
    (levels.bottom.heading.items ++ signature_of levels.bottom.key.tree levels.bottom.key.next message)
unfolding heading_of bottom_key hss_public_of
made-valid levels message kept valid =
    let m = levels.material in
    let q = levels.top_leaf in
    let made = signature_of levels.bottom.key.tree levels.bottom.key.next message in
    let count = to_be_bytes w32 1 in
    let headed = ap (λ (h : List ℕ). h ++ made) kept.bottom.heading in
    let regrouped =
    append_assoc (count ++ top_signature m q) (bottom_key m q) made ∙ append_assoc count (top_signature m q) (bottom_key m q ++ made) in
    record {
      key = public_of (top_tree m);
      levels = record { signature = top_signature m q; next_key = bottom_key m q } ∷ [];
      last = made;
      at_most_eight = omega arith;
      public_is = refl;
      signature_is = headed ∙ regrouped;
      signs = (kept.bottom.signed, subst (λ (k : Key). Valid (public_of k.tree) message made) kept.bottom.key valid);
    }
