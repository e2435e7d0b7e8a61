-- The signatures of a sealed batch: their sizes, and that each leads to the root words.
use Rattle.std.proofs.Common.{◌≡◌, ℕ, zero, suc, ◌+◌, ◌-◌, ◌*◌, ◌^◌, ◌≤◌, ◌<◌, List, [], ◌++◌, length, take, drop}
use Rattle.std.proofs.Common.{Bool, true, get_or, refl, sym, ap, ◌∙◌, subst, arith}
use Rattle.std.specs.Prelude.{nat_le, nat_lt}
use Rattle.std.proofs.Math.ListN.{drop_of_length-le}
use Rattle.std.proofs.Math.Seq.{take-length}
use Rattle.std.proofs.lemmas.Bool.{le-leb, lt-ltb}
use Rattle.std.proofs.lemmas.Grind.{common_steps}
use Rattle.std.proofs.Math.Nat.{mul-le-mul_right}
use Rattle.std.proofs.lemmas.List.{append-nil, get_or-map, length-append, length-map}
use Rattle.sha2.proofs.Facts256.{length-sha256}
use Rattle.basil_types.specs.declared.party.Party.{Party}
use Rattle.lms_ots.specs.Chains.{joined}
use Rattle.batch_sign.specs.Sealed.{IsSealed}
use Rattle.batch_sign.specs.Signatures.{AllHold, Sealing, in_batch, inner_in, is_formed, leaves_of, named, path_in, signature_of}
use Rattle.batch_sign.specs.Trees.{climbed, depth_over, inner_node, leaf_at, leaf_of, most_depth, most_messages, node, path_over}
use Rattle.batch_sign.specs.Trees.{place_among, root_words, words_over}
use Rattle.batch_sign.proofs.PathLaws.{climbed-same, path-to_root}
use Rattle.batch_sign.proofs.PieceLaws.{behind, length-joined, piece-at}
use Rattle.batch_sign.proofs.TreeLaws.{leaf-node}

-- each leaf has 32 bytes
abbrev pub AreLong : List (List ℕ) → Type 0
AreLong leaves = (i : ℕ) → i < length leaves → length (get_or leaves i []) ≡ 32

pub among-below : (count place : ℕ) → 0 < count → place_among count place < count
among-below count place some = grind (arith, common_steps)

-- each node has 32 bytes
pub length-node : (leaves : List (List ℕ)) (h level r : ℕ) → AreLong leaves → 0 < length leaves → length (node leaves h level r) ≡ 32
unfolding node inner_node
length-node leaves h zero r long some = long (place_among (length leaves) (r - 2 ^ h)) (among-below (length leaves) _ some)
length-node leaves h (suc level) r long some = length-sha256 _

module _ (s : Sealing) (long : AreLong s.leaves) (some : 0 < length s.leaves) where
  pub length-path : (r n : ℕ) → length (joined (path_over s.leaves (depth_over s.leaves) r) n) ≡ n * 32
  length-path r n = length-joined (path_over s.leaves (depth_over s.leaves) r) 32 n (λ i lt. length-node s.leaves _ i _ long some)

  pub length-signature : (place : ℕ) → length (signature_of s place) ≡ 2 + 32 * depth_over s.leaves + length s.inner
  length-signature place =
      let path = joined (path_over s.leaves (depth_over s.leaves) (2 ^ depth_over s.leaves + place)) (depth_over s.leaves) in
      let whole : length (signature_of s place) ≡ 2 + length (path ++ s.inner) = omega arith in
      omega (arith, whole, length-append path s.inner, length-path (2 ^ depth_over s.leaves + place) (depth_over s.leaves))

  -- each has the form of a signature
  formed : (place : ℕ) → length s.leaves ≤ most_messages → length s.leaves ≤ 2 ^ depth_over s.leaves → depth_over s.leaves ≤ most_depth →
      place < length s.leaves → is_formed (signature_of s place) ≡ true
  formed place most fits deep below =
      let long_enough : nat_le 2 (length (signature_of s place)) ≡ true = le-leb _ _ (omega (arith, length-signature place)) in
      let shallow : nat_le (depth_over s.leaves) most_depth ≡ true = le-leb _ _ deep in
      let path : nat_le (2 + 32 * depth_over s.leaves) (length (signature_of s place)) ≡ true =
      le-leb _ _ (omega (arith, length-signature place)) in
      let there : nat_lt place (2 ^ depth_over s.leaves) ≡ true = lt-ltb _ _ (omega (arith, fits, below)) in
      rw (long_enough, shallow, path, there) refl

  path-in : (place i : ℕ) → i < depth_over s.leaves →
      path_in (signature_of s place) i ≡ path_over s.leaves (depth_over s.leaves) (2 ^ depth_over s.leaves + place) i
  path-in place i lt =
      let path = path_over s.leaves (depth_over s.leaves) (2 ^ depth_over s.leaves + place) in
      let behind_two : 2 + 32 * i ≡ suc (suc (i * 32)) = omega arith in
      ap (λ (k : ℕ). take 32 (drop k (signature_of s place))) behind_two
      ∙ piece-at path 32 (depth_over s.leaves) i s.inner (λ j below. length-node s.leaves _ j _ long some) lt

  inner-in : (place : ℕ) → inner_in (signature_of s place) ≡ s.inner
  inner-in place =
      let path = path_over s.leaves (depth_over s.leaves) (2 ^ depth_over s.leaves + place) in
      let behind_two : 2 + 32 * depth_over s.leaves ≡ suc (suc (depth_over s.leaves * 32)) = omega arith in
      ap (λ (k : ℕ). drop k (signature_of s place)) behind_two
      ∙ behind path 32 (depth_over s.leaves) s.inner (λ j below. length-node s.leaves _ j _ long some)

  leads : (place : ℕ) (message : List ℕ) → length s.leaves ≤ 2 ^ depth_over s.leaves → place < length s.leaves →
      leaf_at s.leaves place ≡ leaf_of message → named message (signature_of s place) ≡ words_over s.leaves
  leads place message fits below is =
      let h = depth_over s.leaves in
      let r = 2 ^ h + place in
      let start : leaf_of message ≡ node s.leaves h 0 r = sym is ∙ sym (leaf-node s.leaves h place) in
      ap (root_words h)
      (climbed-same (path_in (signature_of s place)) (path_over s.leaves h r) r (leaf_of message) h (λ i lt. path-in place i lt)
      ∙ ap (λ (leaf : List ℕ). climbed (path_over s.leaves h r) r leaf h) start
      ∙ path-to_root s.leaves h r (omega arith) (omega (arith, fits, below)))

  -- so each holds of its message where the inner one holds of the root words
  pub holds-at : (holds : Party → List ℕ → List ℕ → Bool) (party : Party) (place : ℕ) (message : List ℕ) →
      length s.leaves ≤ most_messages → length s.leaves ≤ 2 ^ depth_over s.leaves → depth_over s.leaves ≤ most_depth
      → place < length s.leaves → leaf_at s.leaves place ≡ leaf_of message
      → holds party (words_over s.leaves) s.inner ≡ true → in_batch holds party message (signature_of s place) ≡ true
  holds-at holds party place message most fits deep below is h =
      let inside : holds party (named message (signature_of s place)) (inner_in (signature_of s place)) ≡ true =
      rw (leads place message fits below is, inner-in place) h in
      rw (formed place most fits deep below, inside) refl

-- ---- the bytes of a sealed batch

module _ (s : Sealing) (size : ℕ) (bytes : List ℕ) (kept : IsSealed s size bytes) where
  pub ends-within : (place : ℕ) → place < length s.leaves → place * size + size ≤ length bytes
  ends-within place below =
      let whole : length bytes ≡ length s.leaves * size =
      ap length kept.bytes_are ∙ length-joined (signature_of s) size (length s.leaves) (λ i lt. kept.each i) in
      let more : (place + 1) * size ≤ length s.leaves * size = mul-le-mul_right size (omega arith) in
      omega (arith, whole, more)

  pub stands-at : (place : ℕ) → place < length s.leaves → take size (drop (place * size) bytes) ≡ signature_of s place
  stands-at place below =
      ap (λ (t : List ℕ). take size (drop (place * size) t)) (kept.bytes_are ∙ sym (append-nil (joined (signature_of s) (length s.leaves))))
      ∙ piece-at (signature_of s) size (length s.leaves) place [] (λ i lt. kept.each i) below

-- ---- how it is made

-- a slice that was written whole is what was written
pub written : (n : ℕ) (new items : List ℕ) → length new ≡ n → length items ≡ n → take n (new ++ drop (length new) items) ≡ new
written n new items made all =
    let nothing : length items ≤ length new = omega (arith, made, all) in
    rw (drop_of_length-le items nothing, append-nil new, sym made) (take-length new)

pub sealed-as : {l l' : List (List ℕ)} {i i' : List ℕ} (size : ℕ) (b b' : List ℕ) → l ≡ l' → i ≡ i' → length l' ≤ most_messages
    → ((place : ℕ) → length (signature_of (record { leaves = l; inner = i }) place) ≡ size)
    → b ≡ joined (signature_of (record { leaves = l; inner = i })) (length l)
    → b' ≡ b → IsSealed (record { leaves = l'; inner = i' }) size b'
sealed-as {l} {l'} {i} {i'} size b b' leaves inner most each bytes same =
    let to : (record { leaves = l; inner = i }) ≡ (record { leaves = l'; inner = i' }) = rw (leaves, inner) refl in
    record {
      most = most;
      each = λ place. subst (λ (s : Sealing). length (signature_of s place) ≡ size) to (each place);
      bytes_are = same ∙ subst (λ (s : Sealing). b ≡ joined (signature_of s) (length s.leaves)) to bytes;
    }

-- ---- the leaves of messages

pub leaf-of_message : (messages : List (List ℕ)) (place : ℕ) → place < length messages →
    get_or (leaves_of messages) place [] ≡ leaf_of (get_or messages place [])
leaf-of_message messages place below = get_or-map leaf_of messages place [] [] below

pub long-leaves : (messages : List (List ℕ)) → AreLong (leaves_of messages)
unfolding leaf_of
long-leaves messages i below =
    let there : i < length messages = omega (arith, below, length-map messages leaf_of) in
    ap length (leaf-of_message messages i there) ∙ length-sha256 _

among : (count place : ℕ) → place < count → place_among count place ≡ place
among count place below = grind (arith, common_steps)

pub leaf-at_message : (messages : List (List ℕ)) (place : ℕ) → place < length messages →
    leaf_at (leaves_of messages) place ≡ leaf_of (get_or messages place [])
leaf-at_message messages place below =
    let there : place < length (leaves_of messages) = omega (arith, below, length-map messages leaf_of) in
    ap (λ (k : ℕ). get_or (leaves_of messages) k []) (among (length (leaves_of messages)) place there)
    ∙ leaf-of_message messages place below

-- each signature of a batch holds of its message
pub all-hold : (messages : List (List ℕ)) (inner : List ℕ) (holds : Party → List ℕ → List ℕ → Bool) (party : Party) →
    0 < length messages → length messages ≤ most_messages → depth_over (leaves_of messages) ≤ most_depth
    → length (leaves_of messages) ≤ 2 ^ depth_over (leaves_of messages)
    → holds party (words_over (leaves_of messages)) inner ≡ true
    → AllHold holds party messages (record { leaves = leaves_of messages; inner = inner })
all-hold messages inner holds party some most deep wide h place below =
    let s : Sealing = record { leaves = leaves_of messages; inner = inner } in
    let count = length-map messages leaf_of in
    let some_leaf : 0 < length (leaves_of messages) = omega (arith, some, count) in
    let few : length (leaves_of messages) ≤ most_messages = omega (arith, most, count) in
    let there : place < length (leaves_of messages) = omega (arith, below, count) in
    holds-at s (long-leaves messages) some_leaf holds party place (get_or messages place []) few wide deep there
    (leaf-at_message messages place below) h
