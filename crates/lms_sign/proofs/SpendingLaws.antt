-- A key names each leaf once.
use Rattle.std.proofs.Common.{◌≡◌, ℕ, zero, suc, ◌+◌, ◌<◌, nat_lt, Bool, true, false, List}
use Rattle.std.proofs.Common.{[], ◌∷◌, length, get_or, if◌then◌else◌, refl, sym, ◌∙◌, arith}
use Rattle.std.proofs.lemmas.Bool.{ltb-true}
use Rattle.lms_sign.specs.Sets.{leaves_of}
use Rattle.lms_sign.specs.Signing.{Key, signature_of}
use Rattle.lms_sign.specs.Verifying.{leaf_in}
use Rattle.lms_sign.specs.Laws.{signatures_of, SignsOncePerLeaf}
use Rattle.lms_sign.proofs.PartLaws.{leaf-in_made}

leaf-at_head : (key : Key) (message : List ℕ) (later : List (List ℕ))
    → ((i : ℕ) → i < length later → leaf_in (get_or later i []) ≡ key.next + 1 + i)
    → (left : Bool) → nat_lt key.next (leaves_of key.tree.set) ≡ left
    → (i : ℕ) → i < length (if left then signature_of key.tree key.next message ∷ later else [])
    → leaf_in (get_or (if left then signature_of key.tree key.next message ∷ later else []) i []) ≡ key.next + i
leaf-at_head key message later below false e i lt = absurd (omega arith)
leaf-at_head key message later below true e zero lt =
    leaf-in_made key.tree key.next message (ltb-true key.next (leaves_of key.tree.set) e) ∙ omega arith
leaf-at_head key message later below true e (suc i) lt = below i (omega arith) ∙ omega arith

-- the signature i names the leaf that comes i leaves after the next
leaf-at : (key : Key) (messages : List (List ℕ)) (i : ℕ) → i < length (signatures_of key messages)
    → leaf_in (get_or (signatures_of key messages) i []) ≡ key.next + i
leaf-at key [] i lt = absurd (omega arith)
leaf-at key (message ∷ later) i lt =
    leaf-at_head key message (signatures_of (record key { next = key.next + 1 }) later) (leaf-at (record key { next = key.next + 1 }) later)
    (nat_lt key.next (leaves_of key.tree.set)) refl i lt

pub once_per_leaf : SignsOncePerLeaf
once_per_leaf key messages i j before inside same =
    let first = leaf-at key messages i (omega arith) in
    let second = leaf-at key messages j inside in
    let one : key.next + i ≡ key.next + j = sym first ∙ same ∙ second in
    omega arith
