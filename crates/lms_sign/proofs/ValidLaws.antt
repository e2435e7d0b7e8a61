-- Valid signatures: those that a key makes, and those that no test refuses.
use Rattle.std.proofs.Common.{◌≡◌, ℕ, ◌+◌, ◌-◌, ◌<◌, ◌==◌, nat_eq, nat_lt, Bool, true, false, ◌&&◌, List}
use Rattle.std.proofs.Common.{length, Option, Some, None, is_none, IsOk, ◌↔◌, refl, sym, ap, ◌∙◌, eq-eqb, arith}
use Rattle.std.specs.Cmp.Lexicographic.{pointwise, bytes_decides}
use Rattle.std.proofs.lemmas.Bool.{eqb-true, lt-ltb, ltb-true}
use Rattle.lms_sign.specs.declared.sets.LmsSet.{LmsSet}
use Rattle.lms_sign.specs.declared.verifying.LmsRefusal.{LmsRefusal}
use Rattle.lms_ots.specs.Chains.{leaf_of}
use Rattle.lms_ots.proofs.SignatureLaws.{leads_to_the_key}
use Rattle.lms_sign.specs.Sets.{one_time_of, one_time_type_of, type_of, size_of, height_of, leaves_of}
use Rattle.lms_sign.specs.Randomizer.{randomizer_of}
use Rattle.lms_sign.specs.Tree.{Tree, leaf_node, node, root, public_of, one_time_key}
use Rattle.lms_sign.specs.Signing.{path_of, signature_of}
use Rattle.lms_sign.specs.Verifying.{Valid, unless, refusal_in, refusal_under, first_refusal, is_valid, answer_of, set_in}
use Rattle.lms_sign.specs.Verifying.{one_time_type_in, type_in, leaf_in, path_in, candidate_leaf, root_from, ident_in, root_in}
use Rattle.lms_sign.proofs.PathLaws.{path-to_root, climbed-same}
use Rattle.lms_sign.proofs.PartLaws.{length-randomizer, length-public, set-in_public, ident-in_public, root-in_public, length-made}
use Rattle.lms_sign.proofs.PartLaws.{leaf-in_made, one_time_type-in_made, one_time-in_made, type-in_made, path-in_made}

leaf-node_is : (tree : Tree) (q : ℕ) → node tree 0 (leaves_of tree.set + q)
    ≡ leaf_node tree.ident (leaves_of tree.set + q) (one_time_key tree q)
unfolding node
leaf-node_is tree q =
    let e : leaves_of tree.set + q - leaves_of tree.set ≡ q = omega arith in
    ap (λ (k : ℕ). leaf_node tree.ident (leaves_of tree.set + q) (one_time_key tree k)) e

-- the one-time signature leads to its leaf
leaf-made : (tree : Tree) (q : ℕ) (message : List ℕ) → q < leaves_of tree.set
    → candidate_leaf tree.set tree.ident message (signature_of tree q message) ≡ node tree 0 (leaves_of tree.set + q)
leaf-made tree q message lt =
    let set = one_time_of tree.set in
    let key = leads_to_the_key set (leaf_of tree.ident q) tree.seed (randomizer_of tree.seed q) message (length-randomizer tree.seed q) in
    rw (leaf-in_made tree q message lt, one_time-in_made tree q message, key) (sym (leaf-node_is tree q))

-- and its path to the root
root-made : (tree : Tree) (q : ℕ) (message : List ℕ) →
    q < leaves_of tree.set → root_from tree.set tree.ident message (signature_of tree q message) ≡ root tree
root-made tree q message lt =
    let r = leaves_of tree.set + q in
    let made = signature_of tree q message in
    let h = height_of tree.set in
    let leaf = leaf-made tree q message lt in
    let same = climbed-same tree.ident (path_in tree.set made)
    (path_of tree r) r (node tree 0 r) h (λ i below. path-in_made tree q message i below) in
    rw (leaf, leaf-in_made tree q message lt, same) (path-to_root tree q lt)

-- what a key signs is valid under its public key
pub made-valid : (tree : Tree) (q : ℕ) (message : List ℕ) →
    length tree.ident ≡ 16 → q < leaves_of tree.set → Valid (public_of tree) message (signature_of tree q message)
made-valid tree q message len lt =
    let leads = ap (λ (ident : List ℕ). root_from tree.set ident message (signature_of tree q message)) (ident-in_public tree len)
    ∙ root-made tree q message lt ∙ sym (root-in_public tree len) in
    record {
      set = tree.set;
      key_length = length-public tree len;
      key_types = set-in_public tree;
      signature_length = length-made tree q message;
      one_time_type = one_time_type-in_made tree q message;
      tree_type = type-in_made tree q message;
      leaf_range = let e = leaf-in_made tree q message lt in omega (arith, e, lt);
      leads_to_root = leads;
    }

-- no test refuses a valid signature
pub valid-unrefused : (public message signature : List ℕ) → Valid public message signature → first_refusal public message signature ≡ None
valid-unrefused public message signature v =
    let key : (length public == 56) ≡ true = eq-eqb (length public) 56 v.key_length in
    let long : (length signature == size_of v.set) ≡ true = eq-eqb (length signature) (size_of v.set) v.signature_length in
    let one_time : (one_time_type_in signature == one_time_type_of v.set) ≡ true = eq-eqb _ _ v.one_time_type in
    let tree : (type_in v.set signature == type_of v.set) ≡ true = eq-eqb _ _ v.tree_type in
    let leaf : nat_lt (leaf_in signature) (leaves_of v.set) ≡ true = lt-ltb _ _ v.leaf_range in
    let same : pointwise nat_eq (root_from v.set (ident_in public) message signature) (root_in public) ≡ true =
    (bytes_decides _ _).1 v.leads_to_root in
    rw (key, v.key_types, long, one_time, tree, leaf, same) refl

pub valid-told : (public message signature : List ℕ) → Valid public message signature → is_valid public message signature ≡ true
valid-told public message signature v = ap is_none (valid-unrefused public message signature v)

-- a test that refuses nothing was passed, and so were the later ones
passed : (b : Bool) (refusal : LmsRefusal) (later : Option LmsRefusal) → unless b refusal later ≡ None → (b ≡ true) × (later ≡ None)
passed true refusal later h = (refl, h)
passed false refusal later h = absurd (cc)

both : (a b : Bool) → (a && b) ≡ true → (a ≡ true) × (b ≡ true)
both true true h = (refl, refl)
both true false h = absurd (cc)
both false b h = absurd (cc)

valid-under : (set : LmsSet) (public message signature : List ℕ) → length public ≡ 56 → set_in public ≡ Some set
    → refusal_in set public message signature ≡ None → Valid public message signature
valid-under set public message signature key types none =
    let long = passed _ _ _ none in
    let type = passed _ _ _ long.1 in
    let leaf = passed _ _ _ type.1 in
    let same = passed _ _ _ leaf.1 in
    let types_agree = both _ _ type.0 in
    record {
      set = set;
      key_length = key;
      key_types = types;
      signature_length = eqb-true _ _ long.0;
      one_time_type = eqb-true _ _ types_agree.0;
      tree_type = eqb-true _ _ types_agree.1;
      leaf_range = ltb-true _ _ leaf.0;
      leads_to_root = (bytes_decides _ _).0 same.0;
    }

named : (o : Option LmsSet) (public message signature : List ℕ) → length public ≡ 56 → set_in public ≡ o
    → refusal_under o public message signature ≡ None → Valid public message signature
named None public message signature key types none = absurd (cc)
named (Some set) public message signature key types none = valid-under set public message signature key types none

-- and what no test refuses is valid
pub unrefused-valid : (public message signature : List ℕ) → first_refusal public message signature ≡ None → Valid public message signature
unrefused-valid public message signature none =
    let key = passed _ _ _ none in
    named (set_in public) public message signature (eqb-true _ _ key.0) refl key.1

pub unrefused-is_valid : (public message signature : List ℕ)
    → (first_refusal public message signature ≡ None) ↔ Valid public message signature
unrefused-is_valid public message signature = (unrefused-valid public message signature, valid-unrefused public message signature)

answers : (o : Option LmsRefusal) → IsOk (answer_of o) → o ≡ None
answers None h = refl
answers (Some e) h = cc

-- the answer is Ok exactly where the signature is valid
pub ok-valid : (public message signature : List ℕ) →
    IsOk (answer_of (first_refusal public message signature)) ↔ Valid public message signature
ok-valid public message signature = (
  λ ok. unrefused-valid public message signature (answers (first_refusal public message signature) ok),
  λ v. rw (valid-unrefused public message signature v) refl,
)
