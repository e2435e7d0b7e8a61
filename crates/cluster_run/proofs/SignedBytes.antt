-- Digests and LMS signatures are bytes.
use Rattle.std.proofs.Common.{ℕ, zero, suc, ◌+◌, ◌-◌, ◌<◌, List, [], ◌∷◌, ◌++◌, arith}
use Rattle.std.specs.Prelude.{slice_index}
use Rattle.std.specs.Int.{Width, w32, byte_at, bytes_high_first, bytes_low_first, byte_len, to_be_bytes, to_le_bytes}
use Rattle.basil_types.specs.Texts.{IsBytes}
use Rattle.sha2.specs.Sha256.{digest_bytes, sha256}
use Rattle.sha256_lanes.specs.Chains.{steps, step_of}
use Rattle.lms_ots.specs.declared.sets.OtsSet.{OtsSet}
use Rattle.lms_ots.specs.Chains.{Leaf, head, leaf_of, start_of, joined}
use Rattle.lms_ots.specs.Sets.{chains_of}
use Rattle.lms_ots.specs.Sets as ots_sets
use Rattle.lms_ots.specs.Signatures as ots
use Rattle.lms_ots.specs.Digits.{digit, signed_string}
use Rattle.lms_sign.specs.Randomizer.{randomizer_of, stream_bytes}
use Rattle.lms_sign.specs.Sets.{one_time_of, height_of, leaves_of, type_of}
use Rattle.lms_sign.specs.Signing.{path_of, one_time_part, signature_of}
use Rattle.lms_sign.specs.Tree.{Tree, leaf_node, inner_node, node}

-- ---- lists of bytes

no_bytes : IsBytes []
no_bytes i = omega arith

one_more : (b : ℕ) (bs : List ℕ) → b < 256 → IsBytes bs → IsBytes (b ∷ bs)
one_more b bs small k zero = small
one_more b bs small k (suc i) = k i

both : (xs ys : List ℕ) → IsBytes xs → IsBytes ys → IsBytes (xs ++ ys)
both [] ys j k = k
both (x ∷ xs) ys j k = one_more x (xs ++ ys) (j 0) (both xs ys (λ i. j (suc i)) k)

pub byte-small : (i n : ℕ) → byte_at i n < 256
byte-small zero n = omega arith
byte-small (suc i) n = omega arith

high-bytes : (k n : ℕ) → IsBytes (bytes_high_first k n)
high-bytes zero n = no_bytes
high-bytes (suc k) n = one_more (byte_at k n) (bytes_high_first k n) (byte-small k n) (high-bytes k n)

low-bytes : (i k n : ℕ) → IsBytes (bytes_low_first i k n)
low-bytes i zero n = no_bytes
low-bytes i (suc k) n = one_more (byte_at i n) (bytes_low_first (suc i) k n) (byte-small i n) (low-bytes (suc i) k n)

be-bytes : (w : Width) (n : ℕ) → IsBytes (to_be_bytes w n)
be-bytes w n = high-bytes (byte_len w) n

le-bytes : (w : Width) (n : ℕ) → IsBytes (to_le_bytes w n)
le-bytes w n = low-bytes 0 (byte_len w) n

-- ---- digests

words-bytes : (h : List ℕ) (n : ℕ) → IsBytes (digest_bytes h n)
unfolding digest_bytes
words-bytes h zero = no_bytes
words-bytes h (suc n) = both (digest_bytes h n) (to_be_bytes w32 (slice_index h n)) (words-bytes h n) (be-bytes w32 (slice_index h n))

pub digest-bytes : (m : List ℕ) → IsBytes (sha256 m)
unfolding sha256
digest-bytes m = words-bytes _ 8

-- ---- one-time signatures

joined-bytes : (y : ℕ → List ℕ) → ((i : ℕ) → IsBytes (y i)) → (n : ℕ) → IsBytes (joined y n)
unfolding joined
joined-bytes y k zero = no_bytes
joined-bytes y k (suc n) = both (joined y n) (y n) (joined-bytes y k n) (k n)

start-bytes : (leaf : Leaf) (seed : List ℕ) (i : ℕ) → IsBytes (start_of leaf seed i)
unfolding start_of
start-bytes leaf seed i = digest-bytes _

steps-bytes : (head : List ℕ) (i from n : ℕ) (x : List ℕ) → IsBytes x → IsBytes (steps head i from n x)
unfolding steps step_of
steps-bytes head i from zero x k = k
steps-bytes head i from (suc n) x k = digest-bytes _

stream-is_bytes : (seed : List ℕ) (stream n : ℕ) → IsBytes (stream_bytes seed stream n)
unfolding stream_bytes
stream-is_bytes seed stream zero = no_bytes
stream-is_bytes seed stream (suc n) = both (stream_bytes seed stream n) _ (stream-is_bytes seed stream n) (le-bytes w32 _)

randomizer-bytes : (seed : List ℕ) (q : ℕ) → IsBytes (randomizer_of seed q)
unfolding randomizer_of
randomizer-bytes seed q = stream-is_bytes seed (q + 1) 8

one_time-bytes : (set : OtsSet) (leaf : Leaf) (seed c message : List ℕ) → IsBytes c → IsBytes (ots.signature_of set leaf seed c message)
one_time-bytes set leaf seed c message k =
    let string = signed_string set (ots.message_digest leaf c message) in
    let y = ots.signed_part set leaf seed string in
    let kind = to_be_bytes w32 (ots_sets.type_of set) in
    both (kind ++ c) (joined y (chains_of set)) (both kind c (be-bytes w32 (ots_sets.type_of set)) k)
    (joined-bytes y (λ i. steps-bytes (head leaf) i 0 (digit set string i - 0) (start_of leaf seed i) (start-bytes leaf seed i))
    (chains_of set))

-- ---- signatures of trees

node-bytes : (tree : Tree) (level r : ℕ) → IsBytes (node tree level r)
unfolding node leaf_node inner_node
node-bytes tree zero r = digest-bytes _
node-bytes tree (suc level) r = digest-bytes _

pub signature-bytes : (tree : Tree) (q : ℕ) (message : List ℕ) → IsBytes (signature_of tree q message)
signature-bytes tree q message =
    let path = joined (path_of tree (leaves_of tree.set + q)) (height_of tree.set) in
    let kind = to_be_bytes w32 (type_of tree.set) in
    let part = one_time_part tree q message in
    let one_time : IsBytes part =
    one_time-bytes (one_time_of tree.set) (leaf_of tree.ident q) tree.seed (randomizer_of tree.seed q) message
    (randomizer-bytes tree.seed q) in
    both (to_be_bytes w32 q ++ part ++ kind) path
    (both (to_be_bytes w32 q ++ part) kind (both (to_be_bytes w32 q) part (be-bytes w32 q) one_time)
    (be-bytes w32 (type_of tree.set)))
    (joined-bytes (path_of tree (leaves_of tree.set + q)) (λ i. node-bytes tree i _) (height_of tree.set))
