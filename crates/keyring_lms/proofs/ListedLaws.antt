-- Which of the listed parties are a cluster's, and their keys.
use Rattle.std.proofs.Common.{◌≡◌, ℕ, ◌&&◌, ◌||◌, Bool, true, false, List, [], ◌∷◌, ◌++◌}
use Rattle.std.proofs.Common.{map, Some, None, option_map, if◌then◌else◌, refl, sym, ap, ◌∙◌}
use Rattle.std.proofs.Math.Path.{fun_ext}
use Rattle.std.proofs.lemmas.List.Folds.{list_any-append}
use Rattle.basil_types.specs.Setting.{Setting}
use Rattle.basil_types.specs.declared.party.Party.{Party}
use Rattle.lms_sign.specs.declared.sets.LmsSet.{LmsSet}
use Rattle.lms_sign.specs.Tree.{public_of}
use Rattle.lms_sign.specs.Signing.{Key, first_key}
use Rattle.keyring_lms.specs.Keys.{is_same, is_valid_under, lms_accepts}
use Rattle.keyring_lms.specs.Replay.{tree_in_replay, entry_of, tree_entry, public_entry, tree_found, parties_of}
use Rattle.keyring_lms.specs.Replay.{is_party_of, is_listed, AreListedOf, HasOneMore, replay_accepts, listed_accepts}
use Rattle.keyring_lms.proofs.Entries.{same-true, public-in_replay, party-there, accepts-same}

-- the public keys of the trees of parties
pub publics-of_trees : (set : LmsSet) (parties : List Party) → map public_entry (map (tree_entry set) parties) ≡ map (entry_of set) parties
publics-of_trees set [] = refl
publics-of_trees set (p ∷ later) = ap (λ t. entry_of set p ∷ t) (publics-of_trees set later)

-- a party that is among them has its tree
tree-first : (set : LmsSet) (q p : Party) (later : List Party) (b : Bool) → is_same q p ≡ b
    → tree_found (map (tree_entry set) later) p ≡ (if is_listed later p then Some (tree_in_replay set p) else None)
    → tree_found (map (tree_entry set) (q ∷ later)) p ≡ (if is_same q p || is_listed later p then Some (tree_in_replay set p) else None)
tree-first set q p later true e h = rw e (ap (λ (own : Party). Some (tree_in_replay set own)) (same-true q p e))
tree-first set q p later false e h = rw e h

tree-listed : (set : LmsSet) (parties : List Party) (p : Party)
    → tree_found (map (tree_entry set) parties) p ≡ (if is_listed parties p then Some (tree_in_replay set p) else None)
tree-listed set [] p = refl
tree-listed set (q ∷ later) p = tree-first set q p later (is_same q p) refl (tree-listed set later p)

pub tree-there : (cluster : Setting) (set : LmsSet) (p : Party) → is_party_of cluster p ≡ true
    → tree_found (map (tree_entry set) (parties_of cluster)) p ≡ Some (tree_in_replay set p)
tree-there cluster set p there =
    tree-listed set (parties_of cluster) p
    ∙ ap (λ b. if b then Some (tree_in_replay set p) else None) (party-there cluster p ∙ there)

pub key-there : (cluster : Setting) (set : LmsSet) (p : Party) → is_party_of cluster p ≡ true
    → option_map first_key (tree_found (map (tree_entry set) (parties_of cluster)) p) ≡ Some (first_key (tree_in_replay set p))
key-there cluster set p there = ap (option_map first_key) (tree-there cluster set p there)

pub some-same : (a b : Key) → Some a ≡ Some b → a ≡ b
some-same a b e = cc

pub keys-there : (cluster : Setting) (set : LmsSet)
    → lms_accepts (map public_entry (map (tree_entry set) (parties_of cluster))) ≡ replay_accepts cluster set
keys-there cluster set = ap lms_accepts (publics-of_trees set (parties_of cluster)) ∙ accepts-same cluster set

-- one party more
nothing-more : (a b : Bool) → b ≡ false → a ≡ (a || b)
nothing-more true b e = refl
nothing-more false b e = sym e

already : (a b c : Bool) → (b ≡ true → a ≡ true) → a ≡ (a || (b && c))
already true b c h = refl
already false true c h = let e = h refl in absurd (cc)
already false false c h = refl

outside : (b c : Bool) → (b ≡ true → c ≡ false) → (b && c) ≡ false
outside true c h = h refl
outside false c h = refl

inside : (b c : Bool) → (b ≡ true → c ≡ true) → (b || false) ≡ (b && c)
inside true c h = sym (h refl)
inside false c h = refl

pub none-more : (cluster : Setting) (added : Party) (before : List Party) → is_party_of cluster added ≡ false
    → HasOneMore cluster added before before
none-more cluster added before not_there p =
    nothing-more (is_listed before p) _
    (outside (is_same added p) (is_party_of cluster p) (λ same. ap (is_party_of cluster) (sym (same-true added p same)) ∙ not_there))

pub listed-already : (cluster : Setting) (added : Party) (before : List Party) → is_listed before added ≡ true
    → HasOneMore cluster added before before
listed-already cluster added before listed p =
    already (is_listed before p) (is_same added p) (is_party_of cluster p)
    (λ same. ap (is_listed before) (sym (same-true added p same)) ∙ listed)

pub one-more : (cluster : Setting) (added : Party) (before : List Party) → is_party_of cluster added ≡ true
    → HasOneMore cluster added before (before ++ added ∷ [])
one-more cluster added before there p =
    list_any-append (λ q. is_same q p) before (added ∷ [])
    ∙ ap (λ b. is_listed before p || b)
    (inside (is_same added p) (is_party_of cluster p) (λ same. ap (is_party_of cluster) (sym (same-true added p same)) ∙ there))

-- and so one after the other
spread : (a b c : Bool) → ((a && c) || (b && c)) ≡ ((a || b) && c)
spread true b true = refl
spread true true false = refl
spread true false false = refl
spread false b c = refl

or-none : (b : Bool) → (b || false) ≡ b
or-none true = refl
or-none false = refl

pub goes_on : (cluster : Setting) (added : Party) (listed before after : List Party) → AreListedOf cluster listed before
    → HasOneMore cluster added before after → AreListedOf cluster (listed ++ added ∷ []) after
goes_on cluster added listed before after so_far more p =
    more p
    ∙ ap (λ b. b || (is_same added p && is_party_of cluster p)) (so_far p)
    ∙ spread (is_listed listed p) (is_same added p) (is_party_of cluster p)
    ∙ ap (λ b. b && is_party_of cluster p)
    (ap (λ b. is_listed listed p || b) (sym (or-none (is_same added p))) ∙ sym (list_any-append (λ q. is_same q p) listed (added ∷ [])))

-- the keyring of these parties accepts what the replay's accepts of the listed ones
under-some : (set : LmsSet) (p : Party) (words signature : List ℕ) (a b : Bool)
    → is_valid_under (if a && b then Some (public_of (tree_in_replay set p)) else None) words signature
    ≡ (a && is_valid_under (if b then Some (public_of (tree_in_replay set p)) else None) words signature)
under-some set p words signature true b = refl
under-some set p words signature false b = refl

pub accepts-listed : (cluster : Setting) (set : LmsSet) (listed parties : List Party) → AreListedOf cluster listed parties
    → lms_accepts (map (entry_of set) parties) ≡ listed_accepts cluster set listed
accepts-listed cluster set listed parties are =
    fun_ext (λ p. fun_ext (λ words. fun_ext (λ signature.
    ap (λ o. is_valid_under o words signature) (public-in_replay set parties p)
    ∙ ap (λ b. is_valid_under (if b then Some (public_of (tree_in_replay set p)) else None) words signature) (are p)
    ∙ under-some set p words signature (is_listed listed p) (is_party_of cluster p))))
