-- The signature of a message and the key that a signature leads to (RFC 8554, sections 4.5 and 4.6).
use Rattle.std.specs.Prelude.{ℕ, ◌+◌, ◌*◌, List, [], ◌∷◌, ◌++◌, take, drop}
use Rattle.std.specs.Int.{w32, to_be_bytes, from_be_bytes}
use Rattle.sha2.specs.Sha256.{sha256}
use Rattle.lms_ots.specs.declared.sets.OtsSet.{OtsSet}
use Rattle.lms_ots.specs.Sets.{chains_of, last_of, type_of}
use Rattle.lms_ots.specs.Digits.{digit, signed_string}
use Rattle.lms_ots.specs.Chains.{Leaf, head, start_of, chain, joined, key_of_ends}

-- Q, the digest of a message under C
unfoldable pub message_digest : Leaf → List ℕ → List ℕ → List ℕ
message_digest leaf c message = sha256 (head leaf ++ 0x81 ∷ 0x81 ∷ [] ++ c ++ message)

-- chain i up to its digit of the signed string
abbrev pub signed_part : OtsSet → Leaf → List ℕ → List ℕ → ℕ → List ℕ
signed_part set leaf seed string i = chain leaf i 0 (digit set string i) (start_of leaf seed i)

-- u32 type ‖ C ‖ y[0] ‖ .. ‖ y[p - 1]
abbrev pub signature_of : OtsSet → Leaf → List ℕ → List ℕ → List ℕ → List ℕ
signature_of set leaf seed c message =
    to_be_bytes w32 (type_of set) ++ c
    ++ joined (signed_part set leaf seed (signed_string set (message_digest leaf c message))) (chains_of set)

-- the type, C and y[i] in a signature
abbrev pub type_in : List ℕ → ℕ
type_in signature = from_be_bytes w32 (take 4 signature)

abbrev pub c_in : List ℕ → List ℕ
c_in signature = take 32 (drop 4 signature)

abbrev pub part_in : List ℕ → ℕ → List ℕ
part_in signature i = take 32 (drop (36 + 32 * i) signature)

-- where chain i ends that goes on from a signature's y[i]
abbrev pub end_from : OtsSet → Leaf → List ℕ → List ℕ → ℕ → List ℕ
end_from set leaf string signature i = chain leaf i (digit set string i) (last_of set) (part_in signature i)

-- Kc, the candidate: K of these ends
abbrev pub candidate_of : OtsSet → Leaf → List ℕ → List ℕ → List ℕ
candidate_of set leaf message signature =
    key_of_ends set leaf
    (end_from set leaf (signed_string set (message_digest leaf (c_in signature) message)) signature)
