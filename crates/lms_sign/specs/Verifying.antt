-- Valid signatures, and why one is refused (RFC 8554, section 5.4.2).
use Rattle.std.specs.Prelude.{◌≡◌, ℕ, zero, suc, ◌+◌, ◌*◌, ◌/◌, ◌%◌, ◌^◌, ◌<◌, ◌==◌, nat_eq, nat_lt, Bool, ◌&&◌}
use Rattle.std.specs.Prelude.{List, take, drop, length, Option, Some, None, is_none, Ok, Err, Result, if◌then◌else◌}
use Rattle.std.specs.Int.{w32, from_be_bytes}
use Rattle.std.specs.Cmp.Lexicographic.{pointwise}
use Rattle.lms_ots.specs.Chains.{leaf_of}
use Rattle.lms_ots.specs.Signatures.{candidate_of}
use Rattle.lms_sign.specs.declared.sets.LmsSet.{LmsSet}
use Rattle.lms_sign.specs.declared.verifying.LmsRefusal.{LmsRefusal}
use Rattle.lms_sign.specs.declared.verifying.LmsRefusal.TheVariants.{KeyLength, SetType, SignatureLength}
use Rattle.lms_sign.specs.declared.verifying.LmsRefusal.TheVariants.{TypeDiffers, LeafRange, Root}
use Rattle.lms_sign.specs.Sets.{one_time_of, one_time_type_of, one_time_length}
use Rattle.lms_sign.specs.Sets.{height_of, leaves_of, type_of, size_of, set_of_types}
use Rattle.lms_sign.specs.Tree.{leaf_node, inner_node}

-- the u32 at a place
abbrev pub number_at : List ℕ → ℕ → ℕ
number_at bytes place = from_be_bytes w32 (take 4 (drop place bytes))

-- the parts of a public key
abbrev pub set_in : List ℕ → Option LmsSet
set_in public = set_of_types (number_at public 0) (number_at public 4)

abbrev pub ident_in : List ℕ → List ℕ
ident_in public = take 16 (drop 8 public)

abbrev pub root_in : List ℕ → List ℕ
root_in public = take 32 (drop 24 public)

-- the parts of a signature
abbrev pub leaf_in : List ℕ → ℕ
leaf_in signature = number_at signature 0

abbrev pub one_time_type_in : List ℕ → ℕ
one_time_type_in signature = number_at signature 4

abbrev pub one_time_in : LmsSet → List ℕ → List ℕ
one_time_in set signature = take (one_time_length set) (drop 4 signature)

abbrev pub type_in : LmsSet → List ℕ → ℕ
type_in set signature = number_at signature (4 + one_time_length set)

abbrev pub path_in : LmsSet → List ℕ → ℕ → List ℕ
path_in set signature i = take 32 (drop (8 + one_time_length set + 32 * i) signature)

-- the node above the node r, of which the sibling is known too
abbrev pub parent : List ℕ → ℕ → List ℕ → List ℕ → List ℕ
parent ident r sibling own =
    if r % 2 == 0 then inner_node ident (r / 2) own sibling else inner_node ident (r / 2) sibling own

-- the node to which a path leads, some levels above the leaf with number r
unfoldable pub climbed : List ℕ → (ℕ → List ℕ) → ℕ → List ℕ → ℕ → List ℕ
climbed ident path r leaf zero = leaf
climbed ident path r leaf (suc level) = parent ident (r / 2 ^ level) (path level) (climbed ident path r leaf level)

-- the leaf that a signature's one-time signature leads to
abbrev pub candidate_leaf : LmsSet → List ℕ → List ℕ → List ℕ → List ℕ
candidate_leaf set ident message signature =
    leaf_node ident (leaves_of set + leaf_in signature)
    (candidate_of (one_time_of set) (leaf_of ident (leaf_in signature)) message (one_time_in set signature))

-- Tc, the root to which a signature leads
abbrev pub root_from : LmsSet → List ℕ → List ℕ → List ℕ → List ℕ
root_from set ident message signature =
    climbed ident (path_in set signature) (leaves_of set + leaf_in signature)
    (candidate_leaf set ident message signature) (height_of set)

-- a signature of a message under a public key
pub record Valid (public message signature : List ℕ) : Type 0 where
  pub set : LmsSet
  pub key_length : length public ≡ 56
  pub key_types : set_in public ≡ Some set
  pub signature_length : length signature ≡ size_of set
  pub one_time_type : one_time_type_in signature ≡ one_time_type_of set
  pub tree_type : type_in set signature ≡ type_of set
  pub leaf_range : leaf_in signature < leaves_of set
  pub leads_to_root : root_from set (ident_in public) message signature ≡ root_in public

-- a refusal where a test fails, else what the later tests give
abbrev pub unless : Bool → LmsRefusal → Option LmsRefusal → Option LmsRefusal
unless passed refusal later = if passed then later else Some refusal

-- the first test that fails of a signature under a key of this set
abbrev pub refusal_in : LmsSet → List ℕ → List ℕ → List ℕ → Option LmsRefusal
refusal_in set public message signature =
    unless (length signature == size_of set) SignatureLength
    (unless (one_time_type_in signature == one_time_type_of set && type_in set signature == type_of set) TypeDiffers
    (unless (nat_lt (leaf_in signature) (leaves_of set)) LeafRange
    (unless (pointwise nat_eq (root_from set (ident_in public) message signature) (root_in public)) Root
    None)))

-- the first test that fails under a key whose types are those of a set, or of none
abbrev pub refusal_under : Option LmsSet → List ℕ → List ℕ → List ℕ → Option LmsRefusal
refusal_under None public message signature = Some SetType
refusal_under (Some set) public message signature = refusal_in set public message signature

-- the first test that fails
abbrev pub first_refusal : List ℕ → List ℕ → List ℕ → Option LmsRefusal
first_refusal public message signature =
    unless (length public == 56) KeyLength (refusal_under (set_in public) public message signature)

-- the same as a test: no test refuses
abbrev pub is_valid : List ℕ → List ℕ → List ℕ → Bool
is_valid public message signature = is_none (first_refusal public message signature)

-- Ok where no test fails
abbrev pub answer_of : Option LmsRefusal → Result (Unit {0}) LmsRefusal
answer_of None = Ok tt
answer_of (Some refusal) = Err refusal
