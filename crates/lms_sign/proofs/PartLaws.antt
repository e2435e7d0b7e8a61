-- The parts of a key's public key and of its signatures.
use Rattle.std.proofs.Common.{◌≡◌, ℕ, zero, suc, ◌+◌, ◌*◌, ◌<◌, ◌^◌, List, ◌++◌, length, take}
use Rattle.std.proofs.Common.{drop, [], ◌∷◌, Some, refl, sym, ap, ◌∙◌, subst, append_assoc, arith}
use Rattle.std.specs.Int.{w32, to_be_bytes, from_be_bytes}
use Rattle.std.proofs.lemmas.List.{take_at, drop_at, take_all, drop-drop, length-append, length-take-le}
use Rattle.std.proofs.lemmas.Nat.{from_be_bytes-to_be_bytes_4}
use Rattle.std.proofs.Math.Seq.{drop-append-add}
use Rattle.sha2.specs.Sha256.{sha256}
use Rattle.sha2.proofs.Facts256.{length-sha256}
use Rattle.lms_ots.specs.Chains.{leaf_of, joined}
use Rattle.lms_ots.proofs.ChainLaws.{joined-part, length-joined}
use Rattle.lms_ots.proofs.SignatureLaws.{length-signature}
use Rattle.lms_sign.specs.declared.sets.LmsSet.{LmsSet}
use Rattle.lms_sign.specs.declared.sets.LmsSet.TheVariants.{W4H5, W4H10, W8H5, W8H10}
use Rattle.lms_sign.specs.Sets.{one_time_of, one_time_type_of, one_time_length, height_of, leaves_of, type_of, size_of, set_of_types}
use Rattle.lms_sign.specs.Randomizer.{randomizer_of, stream_bytes}
use Rattle.lms_sign.specs.Tree.{Tree, ident_of_seed, leaf_node, inner_node, node, root, public_of}
use Rattle.lms_sign.specs.Signing.{path_of, one_time_part, signature_of}
use Rattle.lms_sign.specs.Verifying.{number_at, set_in, ident_in, root_in, leaf_in, one_time_type_in, one_time_in, type_in, path_in}

length-leaf : (ident : List ℕ) (r : ℕ) (key : List ℕ) → length (leaf_node ident r key) ≡ 32
unfolding leaf_node
length-leaf ident r key = length-sha256 _

length-inner : (ident : List ℕ) (r : ℕ) (left right : List ℕ) → length (inner_node ident r left right) ≡ 32
unfolding inner_node
length-inner ident r left right = length-sha256 _

pub length-node : (tree : Tree) (level r : ℕ) → length (node tree level r) ≡ 32
unfolding node
length-node tree zero r = length-leaf tree.ident r _
length-node tree (suc level) r = length-inner tree.ident r _ _

length-stream : (seed : List ℕ) (stream n : ℕ) → length (stream_bytes seed stream n) ≡ 4 * n
unfolding stream_bytes
length-stream seed stream zero = refl
length-stream seed stream (suc n) = omega (arith, length-stream seed stream n, length-append {A = ℕ})

pub length-randomizer : (seed : List ℕ) (q : ℕ) → length (randomizer_of seed q) ≡ 32
unfolding randomizer_of
length-randomizer seed q = length-stream seed (q + 1) 8

-- the types and the set that they name
type-fits : (set : LmsSet) → type_of set < 2 ^ 32
type-fits W4H5 = omega arith
type-fits W4H10 = omega arith
type-fits W8H5 = omega arith
type-fits W8H10 = omega arith

one_time_type-fits : (set : LmsSet) → one_time_type_of set < 2 ^ 32
one_time_type-fits W4H5 = omega arith
one_time_type-fits W4H10 = omega arith
one_time_type-fits W8H5 = omega arith
one_time_type-fits W8H10 = omega arith

types-name : (set : LmsSet) → set_of_types (type_of set) (one_time_type_of set) ≡ Some set
types-name W4H5 = refl
types-name W4H10 = refl
types-name W8H5 = refl
types-name W8H10 = refl

pub leaves-fit : (set : LmsSet) → leaves_of set < 2 ^ 32
leaves-fit W4H5 = omega arith
leaves-fit W4H10 = omega arith
leaves-fit W8H5 = omega arith
leaves-fit W8H10 = omega arith

-- the parts of a public key
pub length-ident : (seed : List ℕ) → length (ident_of_seed seed) ≡ 16
unfolding ident_of_seed
length-ident seed =
    let digest : length (sha256 (0x49 ∷ [] ++ seed)) ≡ 32 = length-sha256 (0x49 ∷ [] ++ seed) in
    length-take-le 16 (sha256 (0x49 ∷ [] ++ seed)) (omega arith)

pub length-public : (tree : Tree) → length tree.ident ≡ 16 → length (public_of tree) ≡ 56
length-public tree len = omega (arith, len, length-node tree (height_of tree.set) 1, length-append tree.ident (root tree))

pub set-in_public : (tree : Tree) → set_in (public_of tree) ≡ Some tree.set
set-in_public tree =
    let first : number_at (public_of tree) 0 ≡ type_of tree.set = from_be_bytes-to_be_bytes_4 (type_of tree.set) (type-fits tree.set) in
    let second : number_at (public_of tree) 4 ≡ one_time_type_of tree.set =
    from_be_bytes-to_be_bytes_4 (one_time_type_of tree.set) (one_time_type-fits tree.set) in
    ap (λ (k : ℕ). set_of_types k (number_at (public_of tree) 4)) first ∙ ap (set_of_types (type_of tree.set)) second ∙ types-name tree.set

pub ident-in_public : (tree : Tree) → length tree.ident ≡ 16 → ident_in (public_of tree) ≡ tree.ident
ident-in_public tree len = take_at tree.ident (root tree) 16 len

pub root-in_public : (tree : Tree) → length tree.ident ≡ 16 → root_in (public_of tree) ≡ root tree
root-in_public tree len =
    ap (take 32) (drop_at tree.ident (root tree) 16 len) ∙ take_all 32 (root tree) (omega (arith, length-node tree (height_of tree.set) 1))

-- the parts of a signature
pub length-one_time : (tree : Tree) (q : ℕ) (message : List ℕ) → length (one_time_part tree q message) ≡ one_time_length tree.set
length-one_time tree q message =
    length-signature (one_time_of tree.set)
    (leaf_of tree.ident q) tree.seed (randomizer_of tree.seed q) message (length-randomizer tree.seed q)

pub length-path : (tree : Tree) (r n : ℕ) → length (joined (path_of tree r) n) ≡ 32 * n
length-path tree r n = length-joined (path_of tree r) (λ i. length-node tree i _) n

length-three : (a b c : List ℕ) → length (a ++ b ++ c) ≡ length a + length b + length c
length-three a b c = omega (arith, length-append (a ++ b) c, length-append a b)

length-four : (a b c d : List ℕ) → length (a ++ b ++ c ++ d) ≡ length a + length b + length c + length d
length-four a b c d = omega (arith, length-append (a ++ b ++ c) d, length-three a b c)

pub length-made : (tree : Tree) (q : ℕ) (message : List ℕ) → length (signature_of tree q message) ≡ size_of tree.set
length-made tree q message =
    let one_time = one_time_part tree q message in
    let path = joined (path_of tree (leaves_of tree.set + q)) (height_of tree.set) in
    let one_time_long = length-one_time tree q message in
    let path_long = length-path tree (leaves_of tree.set + q) (height_of tree.set) in
    length-four (to_be_bytes w32 q) one_time (to_be_bytes w32 (type_of tree.set)) path ∙ omega arith

pub leaf-in_made : (tree : Tree) (q : ℕ) (message : List ℕ) → q < leaves_of tree.set → leaf_in (signature_of tree q message) ≡ q
leaf-in_made tree q message lt = from_be_bytes-to_be_bytes_4 q (omega (arith, lt, leaves-fit tree.set))

pub one_time_type-in_made : (tree : Tree) (q : ℕ) (message : List ℕ) →
    one_time_type_in (signature_of tree q message) ≡ one_time_type_of tree.set
one_time_type-in_made tree q message = from_be_bytes-to_be_bytes_4 (one_time_type_of tree.set) (one_time_type-fits tree.set)

pub one_time-in_made : (tree : Tree) (q : ℕ) (message : List ℕ) →
    one_time_in tree.set (signature_of tree q message) ≡ one_time_part tree q message
one_time-in_made tree q message =
    let one_time = one_time_part tree q message in
    let number = to_be_bytes w32 (type_of tree.set) in
    let path = joined (path_of tree (leaves_of tree.set + q)) (height_of tree.set) in
    let all : drop 4 (signature_of tree q message) ≡ one_time ++ (number ++ path) = append_assoc one_time number path in
    ap (take (one_time_length tree.set)) all ∙ take_at one_time (number ++ path) (one_time_length tree.set) (length-one_time tree q message)

pub type-in_made : (tree : Tree) (q : ℕ) (message : List ℕ) → type_in tree.set (signature_of tree q message) ≡ type_of tree.set
type-in_made tree q message =
    let one_time = one_time_part tree q message in
    let n = one_time_length tree.set in
    let number = to_be_bytes w32 (type_of tree.set) in
    let path = joined (path_of tree (leaves_of tree.set + q)) (height_of tree.set) in
    let all : drop 4 (signature_of tree q message) ≡ one_time ++ (number ++ path) = append_assoc one_time number path in
    let rest : drop (4 + n) (signature_of tree q message) ≡ number ++ path =
    sym (drop-drop n 4 (signature_of tree q message))
    ∙ ap (drop n) all ∙ drop_at one_time (number ++ path) n (length-one_time tree q message) in
    ap (λ (t : List ℕ). from_be_bytes w32 (take 4 t)) rest ∙ from_be_bytes-to_be_bytes_4 (type_of tree.set) (type-fits tree.set)

pub path-in_made : (tree : Tree) (q : ℕ) (message : List ℕ) (i : ℕ) → i < height_of tree.set
    → path_in tree.set (signature_of tree q message) i ≡ path_of tree (leaves_of tree.set + q) i
path-in_made tree q message i lt =
    let front = to_be_bytes w32 q ++ one_time_part tree q message ++ to_be_bytes w32 (type_of tree.set) in
    let path = joined (path_of tree (leaves_of tree.set + q)) (height_of tree.set) in
    let one_time_long = length-one_time tree q message in
    let long : length front ≡ 8 + one_time_length tree.set =
    length-three (to_be_bytes w32 q) (one_time_part tree q message) (to_be_bytes w32 (type_of tree.set)) ∙ omega arith in
    let past = drop-append-add front path (32 * i) in
    let P : ℕ → Type 0 = λ k. take 32 (drop (k + 32 * i) (front ++ path)) ≡ path_of tree (leaves_of tree.set + q) i in
    subst P long
    (ap (take 32) past ∙ joined-part (path_of tree (leaves_of tree.set + q)) (λ j. length-node tree j _) (height_of tree.set) i lt)
