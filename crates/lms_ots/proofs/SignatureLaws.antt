-- The key to which a signature leads.
use Rattle.std.proofs.Common.{◌≡◌, ℕ, ◌+◌, ◌*◌, ◌≤◌, ◌<◌, List, [], ◌∷◌, ◌++◌, length, take, drop, ap, subst, ◌∙◌, arith}
use Rattle.std.specs.Int.{w32, to_be_bytes}
use Rattle.std.proofs.lemmas.List.{take_at, length-append}
use Rattle.std.proofs.lemmas.Nat.{and_le_l}
use Rattle.std.proofs.Math.Seq.{drop-append-add}
use Rattle.sha2.specs.Sha256.{sha256}
use Rattle.lms_ots.specs.declared.sets.OtsSet.{OtsSet}
use Rattle.lms_ots.specs.declared.sets.OtsSet.TheVariants.{W4, W8}
use Rattle.lms_ots.specs.Sets.{chains_of, last_of, type_of, signature_length}
use Rattle.lms_ots.specs.Digits.{digit, signed_string}
use Rattle.lms_ots.specs.Chains.{Leaf, head, start_of, chain, joined, end_of, key_of_ends, public_of}
use Rattle.lms_ots.specs.Signatures.{message_digest, signed_part, signature_of, part_in, end_from, candidate_of}
use Rattle.lms_ots.proofs.ChainLaws.{joined-same, joined-part, length-joined, length-start, length-steps, chain-then}

digit-last : (set : OtsSet) (string : List ℕ) (i : ℕ) → digit set string i ≤ last_of set
digit-last W4 string i = and_le_l 15 _
digit-last W8 string i = and_le_l 255 _

part-is : (set : OtsSet) (leaf : Leaf) (seed c string : List ℕ) → length c ≡ 32 → (i : ℕ) → i < chains_of set
    → part_in (to_be_bytes w32 (type_of set) ++ c ++ joined (signed_part set leaf seed string) (chains_of set)) i
    ≡ signed_part set leaf seed string i
part-is set leaf seed c string len i lt =
    let y = signed_part set leaf seed string in
    let front = to_be_bytes w32 (type_of set) ++ c in
    let long : length front ≡ 36 = omega (arith, len) in
    let past = drop-append-add front (joined y (chains_of set)) (32 * i) in
    let P : ℕ → Type 0 = λ k. take 32 (drop (k + 32 * i) (front ++ joined y (chains_of set))) ≡ y i in
    subst P long (ap (take 32) past
    ∙ joined-part y (λ j. length-steps (head leaf) j 0 _ (start_of leaf seed j) (length-start leaf seed j)) (chains_of set) i lt)

each_end : (set : OtsSet) (leaf : Leaf) (seed c string : List ℕ) → length c ≡ 32 → (i : ℕ) → i < chains_of set
    → end_from set leaf string (to_be_bytes w32 (type_of set) ++ c ++ joined (signed_part set leaf seed string) (chains_of set)) i
    ≡ end_of set leaf seed i
each_end set leaf seed c string len i lt =
    ap (λ (t : List ℕ). chain leaf i (digit set string i) (last_of set) t) (part-is set leaf seed c string len i lt)
    ∙ chain-then leaf i (digit set string i) (last_of set) (start_of leaf seed i) (digit-last set string i)

-- a leaf's signature leads to the leaf's key
pub leads_to_the_key : (set : OtsSet) (leaf : Leaf) (seed c message : List ℕ) → length c ≡ 32
    → candidate_of set leaf message (signature_of set leaf seed c message) ≡ public_of set leaf seed
unfolding key_of_ends
leads_to_the_key set leaf seed c message len =
    let string = signed_string set (message_digest leaf c message) in
    let y = signed_part set leaf seed string in
    let signature = signature_of set leaf seed c message in
    let c-is : take 32 (drop 4 signature) ≡ c = take_at c (joined y (chains_of set)) 32 len in
    rw c-is (ap (λ (t : List ℕ). sha256 (head leaf ++ 0x80 ∷ 0x80 ∷ [] ++ t)) (joined-same (end_from set leaf string signature)
    (end_of set leaf seed) (chains_of set) (λ i lt. each_end set leaf seed c string len i lt)))

pub length-signature : (set : OtsSet) (leaf : Leaf) (seed c message : List ℕ) →
    length c ≡ 32 → length (signature_of set leaf seed c message) ≡ signature_length set
length-signature set leaf seed c message len =
    let y = signed_part set leaf seed (signed_string set (message_digest leaf c message)) in
    let parts = length-joined y (λ j. length-steps (head leaf) j 0 _ (start_of leaf seed j) (length-start leaf seed j)) (chains_of set) in
    omega (arith, len, parts, length-append c (joined y (chains_of set)))
